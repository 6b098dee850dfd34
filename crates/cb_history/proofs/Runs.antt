-- The casts of a sender that are there in a row from the first.
use Rattle.std.proofs.Common.{◌≡◌, ℕ, zero, suc, ◌+◌, ◌-◌, ◌<◌, ◌≤◌, Bool, true, false, not, eqb, List, [], ◌∷◌, ◌++◌, map, refl, sym, ap, subst, ◌∙◌, arith, inl, inr, ◌⊎◌}
use Rattle.std.specs.List.{filter}
use Rattle.std.proofs.lemmas.Bool.{cases_eq, cases_lt, eq-eqb, eqb-true, false_from_ne_true, both_ways, not-true, not_from_false}
use Rattle.cb_frames.specs.Fields.{CastFields, Carried, first_number, last_number}
use Rattle.cb_frames.proofs.Carried.{carried_is_of_cast}
use Rattle.cb_history.specs.Group.{Identity}
use Rattle.cb_history.specs.Facts.{Fact, casts_in, messages_in, is_there, numbers_between}
use Rattle.cb_history.specs.View.{count, is_expanded, expanded_in, view}
use Rattle.cb_history.specs.Known.{greatest_of, expanded_count}
use Rattle.cb_history.specs.Answers.{own_casts, delivered}
use Rattle.cb_history.specs.LegalFacts.{AreFactsOf}
use Rattle.cb_history.specs.KnowledgeLaws.{newly_expanded}
use Rattle.cb_history.specs.GapLaws.{Has}
use Rattle.cb_history.specs.ExpansionLaws.{ExpandedAreThere, NextIsNotThere, RunIsExpanded, ExpandedUpToTheCount, DeliveredIsExpanded, OthersExpandNothing, AfterAGapNothingExpands, TheRunIsNewlyExpanded, GreatestOfTheRun}
use Rattle.cb_history.proofs.Views.{IsIn, filter_in, in_filter}
use Rattle.cb_history.proofs.Lists.{in_casts_push, in_is_among, among_is, order_bound}
use Rattle.cb_history.proofs.Names.{all_stand, one_of_is_in, in_is_one_of}
use Rattle.cb_history.proofs.Times.{all_from_range, seen_is_there}
use Rattle.cb_history.proofs.Rising.{there_more, all_at_most}
use Rattle.cb_history.proofs.RisingByCasts.{one_at_most}
use Rattle.cb_history.proofs.Gaps.{has_range, range_has}
use Rattle.cb_history.proofs.GapsLater.{there_below}

-- ---- lists

-- some value is as great as the greatest
reached_by : (g : Carried → ℕ) (ms : List Carried) (n : ℕ) → 1 ≤ n → n ≤ greatest_of (map g ms) → (m : Carried) × IsIn m ms × (n ≤ g m)
reached_by g [] n low high = absurd (omega (arith, low, high))
reached_by g (m ∷ ms) n low high =
    elim (cases_lt (g m) n) [
      | inl lt ↦ let r = reached_by g ms n low (omega (arith, high, lt)) in (r.0, inr r.1, r.2)
      | inr le ↦ (m, inl refl, le)
    ]

value_at_most : (g : ℕ → ℕ) (ns : List ℕ) (n : ℕ) → Has ns n → g n ≤ greatest_of (map g ns)
value_at_most g [] n h = absurd h
value_at_most g (m ∷ ns) n (inl same) = let is = ap g same in omega (arith, is)
value_at_most g (m ∷ ns) n (inr later) = let others = value_at_most g ns n later in omega (arith, others)

values_below : (g : ℕ → ℕ) (ns : List ℕ) (most : ℕ) → ((n : ℕ) → Has ns n → g n ≤ most) → greatest_of (map g ns) ≤ most
values_below g [] most each = omega arith
values_below g (n ∷ ns) most each =
    let here = each n (inl refl) in
    let others = values_below g ns most (λ m later. each m (inr later)) in
    omega (arith, here, others)

-- ---- the message of a number that is there

pub record HasMessage (casts : List CastFields) (i n : ℕ) : Type 0 where
  pub found : Carried
  pub there : IsIn found (messages_in casts)
  pub sender_is : found.sender ≡ i
  pub number_is : found.number ≡ n

pub message_there : (casts : List CastFields) (i n : ℕ) → is_there casts i n ≡ true → HasMessage casts i n
message_there casts i n h =
    let found = among_is (messages_in casts) (record { sender = i; number = n; payload = [] }) h in
    record { found = found.0; there = found.1; sender_is = found.2; number_is = found.3 }

pub message_is_there : (casts : List CastFields) (m : Carried) (i n : ℕ) → IsIn m (messages_in casts) → m.sender ≡ i → m.number ≡ n → is_there casts i n ≡ true
message_is_there casts m i n there sender number =
    subst (λ (k : ℕ). is_there casts k n ≡ true) sender (subst (λ (j : ℕ). is_there casts m.sender j ≡ true) number (in_is_among (messages_in casts) m there))

-- with one more cast: it was there, or is this one
pub there_push : (casts : List CastFields) (c : CastFields) (i n : ℕ) → is_there (casts ++ c ∷ []) i n ≡ true → (is_there casts i n ≡ true) ⊎ ((c.sender ≡ i) × (first_number c ≤ n) × (n ≤ last_number c))
there_push casts c i n h =
    let m = message_there (casts ++ c ∷ []) i n h in
    let number = m.number_is in
    elim (in_casts_push casts c m.found m.there) [
      | inl old ↦ inl (message_is_there casts m.found i n old m.sender_is m.number_is)
      | inr late ↦
          let of = carried_is_of_cast c m.found late in
          let low = of.low in
          let high = of.high in
          inr (sym of.sender_is ∙ m.sender_is, omega (arith, low, number), omega (arith, high, number))
    ]

-- ---- the count

pub expanded_are_there : ExpandedAreThere
expanded_are_there casts i n low high =
    let m = reached_by (λ x. x.number) (filter (λ x. eqb x.sender i) (expanded_in casts)) n low high in
    let own = filter_in (λ x. eqb x.sender i) (expanded_in casts) m.0 m.1 in
    let expanded = filter_in (is_expanded casts) (messages_in casts) m.0 own.1 in
    subst (λ (k : ℕ). is_there casts k n ≡ true) (eqb-true m.0.sender i own.0) (there_below casts m.0 n expanded.0 low m.2)

abbrev IsRun : List CastFields → ℕ → ℕ → Type 0
IsRun casts i n = (k : ℕ) → 1 ≤ k → k ≤ n → is_there casts i k ≡ true

run_expands : (casts : List CastFields) (m : Carried) → IsRun casts m.sender m.number → is_expanded casts m ≡ true
run_expands casts m run = all_from_range (is_there casts m.sender) (0 + 1) (m.number - 0) (λ k low high. run k (omega (arith, low)) (omega (arith, high)))

pub run_at_most : (casts : List CastFields) (i n : ℕ) → IsRun casts i n → n ≤ expanded_count casts i
run_at_most casts i zero run = omega arith
run_at_most casts i (suc n) run =
    let m = message_there casts i (suc n) (run (suc n) (omega arith) (omega arith)) in
    let own : IsRun casts m.found.sender m.found.number = subst (λ (j : ℕ). IsRun casts j m.found.number) (sym m.sender_is) (subst (IsRun casts i) (sym m.number_is) run) in
    let expanded = in_filter (is_expanded casts) (messages_in casts) m.found (run_expands casts m.found own) m.there in
    let most = one_at_most (λ x. eqb x.sender i) (λ x. x.number) (expanded_in casts) m.found expanded (eq-eqb m.found.sender i m.sender_is) in
    let number = m.number_is in
    omega (arith, most, number)

pub next_is_not_there : NextIsNotThere
next_is_not_there casts i = false_from_ne_true (is_there casts i (expanded_count casts i + 1)) (λ there.
    let most = run_at_most casts i (expanded_count casts i + 1) (λ k low high. one_more there k low high) in
    omega (arith, most))
  where
    one_more : is_there casts i (expanded_count casts i + 1) ≡ true → IsRun casts i (expanded_count casts i + 1)
    one_more there k low high = elim (cases_lt (expanded_count casts i) k) [
      | inl last ↦ let is : expanded_count casts i + 1 ≡ k = omega (arith, last, high) in subst (λ (j : ℕ). is_there casts i j ≡ true) is there
      | inr below ↦ expanded_are_there casts i k low below
    ]

pub run_is_expanded : RunIsExpanded
run_is_expanded casts i n run none =
    let least = run_at_most casts i n run in
    elim (cases_lt n (expanded_count casts i)) [
      | inl more ↦ absurd (both_ways (is_there casts i (n + 1)) none (expanded_are_there casts i (n + 1) (omega arith) (omega (arith, more))))
      | inr most ↦ omega (arith, least, most)
    ]

pub expanded_up_to_the_count : ExpandedUpToTheCount
expanded_up_to_the_count casts m = (
  λ expanded. run_at_most casts m.sender m.number (λ k low high. there_below casts m k expanded low high),
  λ most. run_expands casts m (λ k low high. expanded_are_there casts m.sender k low (omega (arith, high, most))),
)

-- ---- what is delivered

-- an own cast that is there was delivered
pub own_is_delivered : (seat : Identity) (facts : List Fact) (n : ℕ) → AreFactsOf seat facts → is_there (casts_in facts) seat.me n ≡ true → n ≤ delivered seat facts seat.me
own_is_delivered seat facts n are there =
    let s = all_stand seat facts are.member are.facts_are in
    let m = message_there (casts_in facts) seat.me n there in
    let again = among_is (view seat.group.size facts) m.found (s.own_seen m.found m.there m.sender_is) in
    let bound = order_bound [] (view seat.group.size facts) again.0 s.order again.1 in
    let at : count (view seat.group.size facts) again.0.sender ≡ count (view seat.group.size facts) seat.me = ap (count (view seat.group.size facts)) (again.2 ∙ m.sender_is) in
    let number : again.0.number ≡ n = again.3 ∙ m.number_is in
    omega (arith, bound, at, number)

own_at_most : (seat : Identity) (facts : List Fact) (n : ℕ) → AreFactsOf seat facts → n ≡ expanded_count (casts_in facts) seat.me → n ≤ delivered seat facts seat.me
own_at_most seat facts zero are is = omega arith
own_at_most seat facts (suc n) are is = own_is_delivered seat facts (suc n) are (expanded_are_there (casts_in facts) seat.me (suc n) (omega arith) (omega (arith, is)))

pub delivered_is_expanded : DeliveredIsExpanded
delivered_is_expanded seat facts are =
    let s = all_stand seat facts are.member are.facts_are in
    let seen = view seat.group.size facts in
    let each : (i : ℕ) → count seen i ≤ expanded_count (casts_in facts) i = λ i.
    run_at_most (casts_in facts) i (count seen i) (λ k low high. seen_is_there seat (casts_in facts) seen (own_casts facts) i k s low high) in
    let most = own_at_most seat facts (expanded_count (casts_in facts) seat.me) are refl in
    (each, (let least = each seat.me in omega (arith, most, least)))

-- ---- one more cast

-- where the next number is none of this cast's, the run is as it was
same_run : (casts : List CastFields) (c : CastFields) (i : ℕ) → (c.sender ≡ i → first_number c ≤ expanded_count casts i + 1 → expanded_count casts i + 1 ≤ last_number c → ⊥) → expanded_count (casts ++ c ∷ []) i ≡ expanded_count casts i
same_run casts c i other =
    run_is_expanded (casts ++ c ∷ []) i (expanded_count casts i)
    (λ k low high. there_more casts (c ∷ []) i k (expanded_are_there casts i k low high))
    (false_from_ne_true (is_there (casts ++ c ∷ []) i (expanded_count casts i + 1)) (λ there. elim (there_push casts c i (expanded_count casts i + 1) there) [
      | inl old ↦ both_ways (is_there casts i (expanded_count casts i + 1)) (next_is_not_there casts i) old
      | inr late ↦ other late.0 late.1 late.2
    ]))

pub others_expand_nothing : OthersExpandNothing
others_expand_nothing casts c i ne = same_run casts c i (λ e _ _. ne e)

pub after_a_gap_nothing_expands : AfterAGapNothingExpands
after_a_gap_nothing_expands casts c other = same_run casts c c.sender (λ _ low high. other low high)

pub count_rises : (casts more : List CastFields) (i : ℕ) → expanded_count casts i ≤ expanded_count (casts ++ more) i
count_rises casts more i = run_at_most (casts ++ more) i (expanded_count casts i) (λ k low high. there_more casts more i k (expanded_are_there casts i k low high))

-- what is newly expanded, as elements
record IsNewly (casts : List CastFields) (c : CastFields) (m : Carried) : Type 0 where
  there : IsIn m (messages_in (casts ++ c ∷ []))
  sender_is : m.sender ≡ c.sender
  above : expanded_count casts c.sender < m.number
  upto : m.number ≤ expanded_count (casts ++ c ∷ []) c.sender

newly_is : (casts : List CastFields) (c : CastFields) (m : Carried) → IsIn m (newly_expanded casts c) → IsNewly casts c m
newly_is casts c m h =
    let new = filter_in (λ x. not (is_expanded casts x)) (expanded_in (casts ++ c ∷ [])) m h in
    let both = filter_in (is_expanded (casts ++ c ∷ [])) (messages_in (casts ++ c ∷ [])) m new.1 in
    let upto = (expanded_up_to_the_count (casts ++ c ∷ []) m).0 both.0 in
    let above : expanded_count casts m.sender < m.number = elim (cases_lt (expanded_count casts m.sender) m.number) [
      | inl lt ↦ lt
      | inr le ↦ absurd (both_ways (is_expanded casts m) (not-true (is_expanded casts m) new.0) ((expanded_up_to_the_count casts m).1 le))
    ] in
    elim (cases_eq c.sender m.sender) [
      | inl e ↦ record {
        there = both.1;
        sender_is = sym e;
        above = subst (λ (i : ℕ). expanded_count casts i < m.number) (sym e) above;
        upto = subst (λ (i : ℕ). m.number ≤ expanded_count (casts ++ c ∷ []) i) (sym e) upto;
      }
      | inr ne ↦ absurd (let same = others_expand_nothing casts c m.sender ne in omega (arith, same, upto, above))
    ]

is_newly : (casts : List CastFields) (c : CastFields) (m : Carried) → IsNewly casts c m → IsIn m (newly_expanded casts c)
is_newly casts c m n =
    let upto : m.number ≤ expanded_count (casts ++ c ∷ []) m.sender = subst (λ (i : ℕ). m.number ≤ expanded_count (casts ++ c ∷ []) i) (sym n.sender_is) n.upto in
    let not_before : is_expanded casts m ≡ false = false_from_ne_true (is_expanded casts m) (λ was.
    let most = (expanded_up_to_the_count casts m).0 was in
    let at : expanded_count casts m.sender ≡ expanded_count casts c.sender = ap (expanded_count casts) n.sender_is in
    let above = n.above in
    omega (arith, most, at, above)) in
    in_filter (λ x. not (is_expanded casts x)) (expanded_in (casts ++ c ∷ [])) m (not_from_false (is_expanded casts m) not_before)
    (in_filter (is_expanded (casts ++ c ∷ [])) (messages_in (casts ++ c ∷ [])) m ((expanded_up_to_the_count (casts ++ c ∷ []) m).1 upto) n.there)

pub the_run_is_newly_expanded : TheRunIsNewlyExpanded
the_run_is_newly_expanded casts c m = (
  λ h. let n = newly_is casts c m (one_of_is_in m (newly_expanded casts c) h) in (in_is_one_of m (messages_in (casts ++ c ∷ [])) n.there, n.sender_is, n.above, n.upto),
  λ h. in_is_one_of m (newly_expanded casts c) (is_newly casts c m (record { there = one_of_is_in m (messages_in (casts ++ c ∷ [])) h.0; sender_is = h.1; above = h.2; upto = h.3 })),
)

pub greatest_of_the_run : GreatestOfTheRun
greatest_of_the_run casts c value =
    let low = expanded_count casts c.sender in
    let high = expanded_count (casts ++ c ∷ []) c.sender in
    let new : Carried → Bool = λ m. not (is_expanded casts m) in
    let now = expanded_in (casts ++ c ∷ []) in
    let most : greatest_of (map (λ m. value m.sender m.number) (newly_expanded casts c)) ≤ greatest_of (map (value c.sender) (numbers_between low high)) =
    all_at_most new (λ m. value m.sender m.number) (greatest_of (map (value c.sender) (numbers_between low high))) now (λ m there is_new.
    let n = newly_is casts c m (in_filter new now m is_new there) in
    let above = n.above in
    let upto = n.upto in
    let at : value m.sender m.number ≡ value c.sender m.number = ap (λ (i : ℕ). value i m.number) n.sender_is in
    let here = value_at_most (value c.sender) (numbers_between low high) m.number (range_has (low + 1) (high - low) m.number (omega (arith, above)) (omega (arith, above, upto))) in
    omega (arith, at, here)) in
    let least : greatest_of (map (value c.sender) (numbers_between low high)) ≤ greatest_of (map (λ m. value m.sender m.number) (newly_expanded casts c)) =
    values_below (value c.sender) (numbers_between low high) (greatest_of (map (λ m. value m.sender m.number) (newly_expanded casts c))) (λ k h.
    let bounds = has_range (low + 1) (high - low) k h in
    let m = message_there (casts ++ c ∷ []) c.sender k (expanded_are_there (casts ++ c ∷ []) c.sender k (omega (arith, bounds.0)) (omega (arith, bounds.0, bounds.1))) in
    let number = m.number_is in
    let newly = filter_in new now m.found
    (is_newly casts c m.found (record { there = m.there; sender_is = m.sender_is; above = omega (arith, bounds.0, number); upto = omega (arith, bounds.0, bounds.1, number) })) in
    let at : value m.found.sender m.found.number ≡ value c.sender k = ap (λ (i : ℕ). value i m.found.number) m.sender_is ∙ ap (value c.sender) m.number_is in
    let here = one_at_most new (λ x. value x.sender x.number) now m.found newly.1 newly.0 in
    omega (arith, at, here)) in
    omega (arith, most, least)
