-- What a cast says of what is known and acknowledged.
use Rattle.std.proofs.Common.{◌≡◌, ◌≢◌, ℕ, zero, suc, ◌+◌, ◌<◌, ◌≤◌, Bool, true, false, not, cond, eqb, List, [], ◌∷◌, ◌++◌, map, max, refl, sym, ap, subst, ◌∙◌, arith, inl, inr}
use Rattle.std.specs.List.{filter}
use Rattle.std.proofs.lemmas.Bool.{cond_both, cases_eq, ne_eqb}
use Rattle.std.proofs.lemmas.List.{map-append}
use Rattle.std.proofs.lemmas.List.Elements.{filter-append}
use Rattle.cb_frames.specs.Fields.{CastFields, Carried, messages_of, first_number, last_number}
use Rattle.cb_frames.specs.Carrying.{AreNumberedFrom}
use Rattle.cb_frames.proofs.Carried.{carried_in_order, carried_is_of_cast}
use Rattle.cb_diffs.specs.Expansion.{expanded_field}
use Rattle.cb_history.specs.Group.{Identity}
use Rattle.cb_history.specs.Facts.{Fact, OwnCast, CastReceived, casts_in, messages_in, is_there, numbers_between}
use Rattle.cb_history.specs.View.{count, is_among, is_expanded, expanded_in, view}
use Rattle.cb_history.specs.Known.{greatest_of, counted_in_times, known, counted_by, acknowledged_of}
use Rattle.cb_history.specs.Answers.{own_casts, delivered}
use Rattle.cb_history.specs.LegalFacts.{AreFactsOf}
use Rattle.cb_history.specs.KnowledgeLaws.{newly_expanded, CastIsKnown, CastIsAcknowledged, OwnCastTellsNothing, DeliveredIsKnown}
use Rattle.cb_history.proofs.Views.{IsIn, filter_in, casts_in-append, not_true}
use Rattle.cb_history.proofs.Lists.{in_casts_push, in_is_among, among_is, among_by_order, count_of_others}
use Rattle.cb_history.proofs.Names.{StandsAt, all_stand}
use Rattle.cb_history.proofs.Prefixes.{prefix_of_facts_is_legal}
use Rattle.cb_history.proofs.Walks.{view_own}
use Rattle.cb_history.proofs.Growth.{same_field}
use Rattle.cb_history.proofs.Times.{IsNew, is_new, first_is_new, own_number, own_field, seen_is_expanded}
use Rattle.cb_history.proofs.InTime.{times_are_reached}
use Rattle.cb_history.proofs.Rising.{greatest_append, all_at_most, all_weaker, times_rise, known_parts, known_more, counted_at, acknowledged_parts, acknowledged_more}
use Rattle.cb_history.proofs.GapsLater.{there_below}

-- ---- the greatest of some values

pub one_at_most : (p : Carried → Bool) (g : Carried → ℕ) (ms : List Carried) (m : Carried) → IsIn m ms → p m ≡ true → g m ≤ greatest_of (map g (filter p ms))
one_at_most p g [] m there passes = absurd there
one_at_most p g (x ∷ ms) m (inl same) passes =
    cond_both (p x) (x ∷ filter p ms) (filter p ms) (λ (xs : List Carried). g m ≤ greatest_of (map g xs))
    (λ yes. let is : g m ≡ g x = ap g same in omega (arith, is))
    (λ no. absurd (let q : p x ≡ true = ap p (sym same) ∙ passes in cc))
one_at_most p g (x ∷ ms) m (inr later) passes =
    let others = one_at_most p g ms m later passes in
    cond_both (p x) (x ∷ filter p ms) (filter p ms) (λ (xs : List Carried). g m ≤ greatest_of (map g xs)) (λ yes. omega (arith, others)) (λ no. others)

-- those that pass a test and those that do not
halves : (p : Carried → Bool) (g : Carried → ℕ) (ms : List Carried) → greatest_of (map g ms) ≡ max (greatest_of (map g (filter p ms))) (greatest_of (map g (filter (λ m. not (p m)) ms)))
halves p g [] = omega arith
halves p g (m ∷ ms) = one_half (p m) (g m) (filter p ms) (filter (λ x. not (p x)) ms) (halves p g ms)
  where
    one_half : (b : Bool) (n : ℕ) (xs ys : List Carried) → greatest_of (map g ms) ≡ max (greatest_of (map g xs)) (greatest_of (map g ys))
        → max (g m) (greatest_of (map g ms)) ≡ max (greatest_of (map g (cond b (m ∷ xs) xs))) (greatest_of (map g (cond (not b) (m ∷ ys) ys)))
    one_half true n xs ys e = omega (arith, e)
    one_half false n xs ys e = omega (arith, e)

-- ---- a new cast and the times that can be known

abbrev time_with : List CastFields → CastFields → ℕ → Carried → ℕ
time_with casts c i m = expanded_field (casts ++ c ∷ []) m.sender m.number i

-- a message that could be told before says what it said
reported_before : (casts : List CastFields) (c : CastFields) (i : ℕ) (m : Carried) → IsNew casts c → IsIn m (messages_in (casts ++ c ∷ [])) → is_expanded casts m ≡ true → time_with casts c i m ≤ greatest_of (counted_in_times casts i)
reported_before casts c i m new there expanded =
    let same : time_with casts c i m ≡ expanded_field casts m.sender m.number i = same_field casts c m i (first_is_new casts c new) new.positive expanded in
    elim (in_casts_push casts c m there) [
      | inl old ↦ let most = one_at_most (is_expanded casts) (λ x. expanded_field casts x.sender x.number i) (messages_in casts) m old expanded in omega (arith, same, most)
      | inr late ↦
          let low = (carried_is_of_cast c m late).low in
          let positive = new.positive in
          let here : is_there casts m.sender m.number ≡ true = there_below casts m m.number expanded (omega (arith, low, positive)) (omega arith) in
          let none : is_there casts m.sender m.number ≡ false = new.new m late in
          absurd cc
    ]

times_with_one_more : (casts : List CastFields) (c : CastFields) (i : ℕ) → IsNew casts c
    → greatest_of (counted_in_times (casts ++ c ∷ []) i) ≡ max (greatest_of (counted_in_times casts i)) (greatest_of (map (time_with casts c i) (newly_expanded casts c)))
times_with_one_more casts c i new =
    let both = halves (is_expanded casts) (time_with casts c i) (expanded_in (casts ++ c ∷ [])) in
    let before = all_at_most (is_expanded casts) (time_with casts c i) (greatest_of (counted_in_times casts i)) (expanded_in (casts ++ c ∷ []))
    (λ m there was. reported_before casts c i m new (filter_in (is_expanded (casts ++ c ∷ [])) (messages_in (casts ++ c ∷ [])) m there).1 was) in
    let rises = times_rise casts (c ∷ []) i in
    omega (arith, both, before, rises)

reported_one : (b : Bool) (n : ℕ) → greatest_of (cond b (n ∷ []) [] ++ []) ≡ cond b n 0
reported_one true n = omega arith
reported_one false n = refl

pub cast_is_known : CastIsKnown
cast_is_known seat facts c i are =
    let s = all_stand seat (facts ++ CastReceived c ∷ []) are.member are.facts_are in
    let more = known_more facts (CastReceived c) i in
    let parts = known_parts facts i in
    let times = times_with_one_more (casts_in facts) c i (is_new seat facts (CastReceived c) c s refl) in
    let reported = reported_one (eqb c.sender i) (last_number c) in
    omega (arith, more, parts, times, reported)

-- ---- what is acknowledged, of any sender i

-- the times of what was seen are the same with the new cast
counted_same : (casts : List CastFields) (c : CastFields) (seen : List Carried) (k i : ℕ) → IsNew casts c → ((m : Carried) → IsIn m seen → is_expanded casts m ≡ true) → counted_by (casts ++ c ∷ []) seen k i ≡ counted_by casts seen k i
counted_same casts c [] k i new expanded = refl
counted_same casts c (m ∷ seen) k i new expanded =
    let here : expanded_field (casts ++ c ∷ []) m.sender m.number i ≡ expanded_field casts m.sender m.number i = same_field casts c m i (first_is_new casts c new) new.positive (expanded m (inl refl)) in
    let others = counted_same casts c seen k i new (λ x there. expanded x (inr there)) in
    with_one (eqb m.sender k) here others
  where
    with_one : (b : Bool) → expanded_field (casts ++ c ∷ []) m.sender m.number i ≡ expanded_field casts m.sender m.number i → counted_by (casts ++ c ∷ []) seen k i ≡ counted_by casts seen k i
        → map (λ x. expanded_field (casts ++ c ∷ []) x.sender x.number i) (cond b (m ∷ filter (λ x. eqb x.sender k) seen) (filter (λ x. eqb x.sender k) seen))
        ≡ map (λ x. expanded_field casts x.sender x.number i) (cond b (m ∷ filter (λ x. eqb x.sender k) seen) (filter (λ x. eqb x.sender k) seen))
    with_one true here others = rw (here, others) refl
    with_one false here others = others

counted_append : (casts : List CastFields) (seen later : List Carried) (k i : ℕ) → greatest_of (counted_by casts (seen ++ later) k i) ≡ max (greatest_of (counted_by casts seen k i)) (greatest_of (counted_by casts later k i))
counted_append casts seen later k i =
    let time : Carried → ℕ = λ m. expanded_field casts m.sender m.number i in
    let own : Carried → Bool = λ m. eqb m.sender k in
    ap (λ (ms : List Carried). greatest_of (map time ms)) (filter-append own seen later) ∙ ap greatest_of (map-append time (filter own seen) (filter own later))
    ∙ greatest_append (map time (filter own seen)) (map time (filter own later))

counted_with_one_more : (seat : Identity) (facts : List Fact) (c : CastFields) (later : List Carried) (k i : ℕ) → IsNew (casts_in facts) c → StandsAt seat facts
    → counted_at (casts_in facts ++ c ∷ []) (view seat.group.size facts ++ later) k i ≡ max (counted_at (casts_in facts) (view seat.group.size facts) k i) (greatest_of (counted_by (casts_in facts ++ c ∷ []) later k i))
counted_with_one_more seat facts c later k i new s =
    counted_append (casts_in facts ++ c ∷ []) (view seat.group.size facts) later k i
    ∙ ap (λ (ns : List ℕ). max (greatest_of ns) (greatest_of (counted_by (casts_in facts ++ c ∷ []) later k i)))
    (counted_same (casts_in facts) c (view seat.group.size facts) k i new (λ m there. seen_is_expanded seat (casts_in facts) (view seat.group.size facts) (own_casts facts) m s there))

pub cast_is_acknowledged_of : (seat : Identity) (facts : List Fact) (c : CastFields) (k i : ℕ) (deliveries : List Carried) → AreFactsOf seat (facts ++ CastReceived c ∷ [])
    → view seat.group.size (facts ++ CastReceived c ∷ []) ≡ view seat.group.size facts ++ deliveries
    → acknowledged_of seat (facts ++ CastReceived c ∷ []) k i ≡ max (acknowledged_of seat facts k i) (greatest_of (counted_by (casts_in facts ++ c ∷ []) deliveries k i))
cast_is_acknowledged_of seat facts c k i later are grown =
    let before = prefix_of_facts_is_legal seat facts (CastReceived c ∷ []) are in
    let s = all_stand seat (facts ++ CastReceived c ∷ []) are.member are.facts_are in
    let more = acknowledged_more seat facts (CastReceived c) k i in
    let parts = acknowledged_parts seat facts k i in
    let seen : counted_at (casts_in facts ++ c ∷ []) (view seat.group.size (facts ++ CastReceived c ∷ [])) k i ≡ counted_at (casts_in facts ++ c ∷ []) (view seat.group.size facts ++ later) k i = ap (λ (ms : List Carried). counted_at (casts_in facts ++ c ∷ []) ms k i) grown in
    let counted = counted_with_one_more seat facts c later k i (is_new seat facts (CastReceived c) c s refl) (all_stand seat facts before.member before.facts_are) in
    omega (arith, more, parts, seen, counted)

-- ---- and of this member's casts

pub cast_is_acknowledged : CastIsAcknowledged
cast_is_acknowledged seat facts c k = cast_is_acknowledged_of seat facts c k seat.me

-- ---- what is delivered is known

known_from : (seat : Identity) (facts : List Fact) (i n : ℕ) → StandsAt seat facts → count (view seat.group.size facts) i ≡ n → n ≤ known facts i
known_from seat facts i zero s is = omega arith
known_from seat facts i (suc n) s is =
    let name : Carried = record { sender = i; number = suc n; payload = [] } in
    let among : is_among (view seat.group.size facts) name ≡ true = among_by_order [] (view seat.group.size facts) name s.order (omega arith) (omega (arith, is)) in
    let found = among_is (view seat.group.size facts) name among in
    let expanded = seen_is_expanded seat (casts_in facts) (view seat.group.size facts) (own_casts facts) found.0 s found.1 in
    let most = one_at_most (is_expanded (casts_in facts)) (λ m. expanded_field (casts_in facts) m.sender m.number i) (messages_in (casts_in facts)) found.0 (s.there found.0 found.1) expanded in
    let own : expanded_field (casts_in facts) found.0.sender found.0.number i ≡ suc n =
    ap (λ (j : ℕ). expanded_field (casts_in facts) j found.0.number i) found.2 ∙ own_field (casts_in facts) i found.0.number ∙ found.3 in
    let parts = known_parts facts i in
    omega (arith, most, own, parts)

pub delivered_is_known : DeliveredIsKnown
delivered_is_known seat facts i are = known_from seat facts i (delivered seat facts i) (all_stand seat facts are.member are.facts_are) refl

-- ---- an own cast

there_other : (casts : List CastFields) (c : CastFields) (sender n : ℕ) → sender ≢ c.sender → is_there (casts ++ c ∷ []) sender n ≡ true → is_there casts sender n ≡ true
there_other casts c sender n other there =
    let name : Carried = record { sender = sender; number = n; payload = [] } in
    let found = among_is (messages_in (casts ++ c ∷ [])) name there in
    elim (in_casts_push casts c found.0 found.1) [
      | inl old ↦
          let among : is_among (messages_in casts) found.0 ≡ true = in_is_among (messages_in casts) found.0 old in
          subst (λ (k : ℕ). is_there casts k n ≡ true) found.2 (subst (λ (j : ℕ). is_there casts found.0.sender j ≡ true) found.3 among)
      | inr late ↦ absurd (other (sym found.2 ∙ (carried_is_of_cast c found.0 late).sender_is))
    ]

expanded_other : (casts : List CastFields) (c : CastFields) (m : Carried) → m.sender ≢ c.sender → is_expanded (casts ++ c ∷ []) m ≡ true → is_expanded casts m ≡ true
expanded_other casts c m other expanded = all_weaker (is_there (casts ++ c ∷ []) m.sender) (is_there casts m.sender) (numbers_between 0 m.number) (λ n. there_other casts c m.sender n other) expanded

own_cast_newly : (seat : Identity) (facts : List Fact) (c : CastFields) (k : ℕ) → AreFactsOf seat (facts ++ OwnCast c ∷ []) → k < seat.group.size → k ≢ seat.me → c.sender ≡ seat.me
    → (m : Carried) → IsIn m (expanded_in (casts_in facts ++ c ∷ [])) → not (is_expanded (casts_in facts) m) ≡ true → time_with (casts_in facts) c k m ≤ delivered seat facts k
own_cast_newly seat facts c k are member other own m there newly =
    let casts : casts_in (facts ++ OwnCast c ∷ []) ≡ casts_in facts ++ c ∷ [] = casts_in-append facts (OwnCast c) in
    let s = all_stand seat (facts ++ OwnCast c ∷ []) are.member are.facts_are in
    let both = filter_in (is_expanded (casts_in facts ++ c ∷ [])) (messages_in (casts_in facts ++ c ∷ [])) m there in
    elim (cases_eq m.sender c.sender) [
      | inl same ↦
          let in_casts : IsIn m (messages_in (casts_in (facts ++ OwnCast c ∷ []))) = subst (λ (cs : List CastFields). IsIn m (messages_in cs)) (sym casts) both.1 in
          let reached = times_are_reached seat (facts ++ OwnCast c ∷ []) m k are (s.own_seen m in_casts (same ∙ own)) member in
          let time : time_with (casts_in facts) c k m ≡ expanded_field (casts_in (facts ++ OwnCast c ∷ [])) m.sender m.number k = ap (λ (cs : List CastFields). expanded_field cs m.sender m.number k) (sym casts) in
          let seen : delivered seat (facts ++ OwnCast c ∷ []) k ≡ delivered seat facts k =
          ap (λ (ms : List Carried). count ms k) (view_own seat.group.size facts c) ∙ count_of_others (view seat.group.size facts) c k (λ e. other (sym e ∙ own)) in
          omega (arith, reached, time, seen)
      | inr ne ↦
          let old : is_expanded (casts_in facts) m ≡ true = expanded_other (casts_in facts) c m ne both.0 in
          let none : is_expanded (casts_in facts) m ≡ false = not_true (is_expanded (casts_in facts) m) newly in
          absurd cc
    ]

own_cast_known : (seat : Identity) (facts : List Fact) (c : CastFields) (k : ℕ) → AreFactsOf seat (facts ++ OwnCast c ∷ []) → k < seat.group.size → k ≢ seat.me → c.sender ≡ seat.me → known (facts ++ OwnCast c ∷ []) k ≡ known facts k
own_cast_known seat facts c k are member other own =
    let before = prefix_of_facts_is_legal seat facts (OwnCast c ∷ []) are in
    let s = all_stand seat (facts ++ OwnCast c ∷ []) are.member are.facts_are in
    let more = known_more facts (OwnCast c) k in
    let parts = known_parts facts k in
    let times = times_with_one_more (casts_in facts) c k (is_new seat facts (OwnCast c) c s refl) in
    let newly = all_at_most (λ m. not (is_expanded (casts_in facts) m)) (time_with (casts_in facts) c k) (delivered seat facts k) (expanded_in (casts_in facts ++ c ∷ [])) (own_cast_newly seat facts c k are member other own) in
    let least = delivered_is_known seat facts k before in
    omega (arith, more, parts, times, newly, least)

-- the messages of a cast say nothing of what another than its sender delivered
none_counted_by : (casts : List CastFields) (sender n k i : ℕ) (ms : List Carried) → AreNumberedFrom sender n ms → sender ≢ k → counted_by casts ms k i ≡ []
none_counted_by casts sender n k i [] row ne = refl
none_counted_by casts sender n k i (m ∷ ms) row ne = rw (ne_eqb m.sender k (λ e. ne (sym row.0 ∙ e))) (none_counted_by casts sender (n + 1) k i ms row.2 ne)

pub own_cast_acknowledges_nothing : (seat : Identity) (facts : List Fact) (c : CastFields) (k i : ℕ) → AreFactsOf seat (facts ++ OwnCast c ∷ []) → k ≢ seat.me
    → acknowledged_of seat (facts ++ OwnCast c ∷ []) k i ≡ acknowledged_of seat facts k i
own_cast_acknowledges_nothing seat facts c k i are other =
    let before = prefix_of_facts_is_legal seat facts (OwnCast c ∷ []) are in
    let s = all_stand seat (facts ++ OwnCast c ∷ []) are.member are.facts_are in
    let own : c.sender ≡ seat.me = (own_number seat facts c s).0 in
    let more = acknowledged_more seat facts (OwnCast c) k i in
    let parts = acknowledged_parts seat facts k i in
    let seen : counted_at (casts_in facts ++ c ∷ []) (view seat.group.size (facts ++ OwnCast c ∷ [])) k i ≡ counted_at (casts_in facts ++ c ∷ []) (view seat.group.size facts ++ messages_of c) k i = ap (λ (ms : List Carried). counted_at (casts_in facts ++ c ∷ []) ms k i) (view_own seat.group.size facts c) in
    let counted = counted_with_one_more seat facts c (messages_of c) k i (is_new seat facts (OwnCast c) c s refl) (all_stand seat facts before.member before.facts_are) in
    let none : greatest_of (counted_by (casts_in facts ++ c ∷ []) (messages_of c) k i) ≡ 0 =
    ap greatest_of (none_counted_by (casts_in facts ++ c ∷ []) c.sender (first_number c) k i (messages_of c) (carried_in_order c) (λ e. other (sym e ∙ own))) in
    omega (arith, more, parts, seen, counted, none)

pub own_cast_tells_nothing : OwnCastTellsNothing
own_cast_tells_nothing seat facts c k are member other =
    let own : c.sender ≡ seat.me = (own_number seat facts c (all_stand seat (facts ++ OwnCast c ∷ []) are.member are.facts_are)).0 in
    (own_cast_known seat facts c k are member other own, own_cast_acknowledges_nothing seat facts c k seat.me are other)
