-- Of a cast either all messages are delivered or none.
use Rattle.std.proofs.Common.{◌≡◌, ◌≢◌, ℕ, ◌+◌, ◌-◌, ◌<◌, ◌≤◌, Bool, true, false, not, ◌&&◌, cond, eqb, min, List, [], ◌∷◌, ◌++◌, None, refl, sym, ap, subst, ◌∙◌, arith, inl, inr, ◌⊎◌}
use Rattle.std.specs.List.{sum_by}
use Rattle.std.proofs.lemmas.Bool.{cond_both, cases_eq, cases_lt, eq-eqb, ne_eqb, eqb-true, eqb-false, le-leb, lt-leb, both_ways, false_from_ne_true, not_from_false, and_from}
use Rattle.std.proofs.lemmas.List.{append-nil}
use Rattle.std.proofs.lemmas.List.Sums.{sum_by-cons}
use Rattle.cb_frames.specs.Fields.{IsSome, CastFields, Carried, messages_of, growth_in, first_number, last_number}
use Rattle.cb_frames.proofs.Carried.{each_number_is_carried, first_is_carried, last_is_carried}
use Rattle.cb_diffs.specs.Expansion.{growth_of, expanded_field, greatest}
use Rattle.cb_history.specs.Group.{Identity, AreParameters}
use Rattle.cb_history.specs.Facts.{Fact, OwnCast, CastReceived, StatusReceived, OwnStatus, casts_in, messages_in, is_there}
use Rattle.cb_history.specs.View.{count, expanded_in, is_among, is_expanded, is_in_time, is_ready, next_delivery, view}
use Rattle.cb_history.specs.Answers.{delivered, own_casts}
use Rattle.cb_history.specs.LegalFacts.{AreLegalFacts, NoFacts, OneFactMore, AreFactsOf}
use Rattle.cb_history.specs.NameLaws.{NamesDiffer}
use Rattle.cb_history.specs.RelayLaws.{DeliveredWhole}
use Rattle.cb_history.proofs.Views.{IsIn, view_with_one_more, casts_in-append, in_filter, nothing_ready_is_left}
use Rattle.cb_history.proofs.Loads.{some_at}
use Rattle.cb_history.proofs.Lists.{in_push, carried_there, names_apart, names_behind, among_is, among_by_order, order_bound}
use Rattle.cb_history.proofs.Walks.{view_status, view_reported}
use Rattle.cb_history.proofs.Names.{StandsAt, all_stand, in_is_one_of}
use Rattle.cb_history.proofs.Times.{all_from_range, seen_is_there, own_number, own_cast_counts, own_field}
use Rattle.cb_history.proofs.InTime.{times_are_reached}
use Rattle.cb_history.proofs.Delivering.{nothing_is_next, named_among}
use Rattle.cb_history.proofs.Runs.{message_is_there, own_is_delivered}
use Rattle.cb_history.proofs.Buffers.{cast_of_is_in}

-- ---- the cast of a message

-- messages of one name are of one cast
pub one_carrier : (casts : List CastFields) (c d : CastFields) (m n : Carried) → NamesDiffer (messages_in casts) → IsIn c casts → IsIn d casts → IsIn m (messages_of c)
    → IsIn n (messages_of d)
    → m.sender ≡ n.sender → m.number ≡ n.number → c ≡ d
one_carrier [] c d m n differ there here of of' sender number = absurd there
one_carrier (x ∷ casts) c d m n differ (inl same) (inl same') of of' sender number = same ∙ sym same'
one_carrier (x ∷ casts) c d m n differ (inl same) (inr later) of of' sender number =
    let among : is_among (messages_of x) n ≡ true =
    named_among (messages_of x) n m (sym sender) (sym number) (subst (λ (y : CastFields). IsIn m (messages_of y)) same of) in
    let none = names_apart (messages_of x) (messages_in casts) n differ (carried_there casts d n later of') in
    absurd cc
one_carrier (x ∷ casts) c d m n differ (inr later) (inl same) of of' sender number =
    let among : is_among (messages_of x) m ≡ true = named_among (messages_of x) m n sender number (subst (λ (y : CastFields). IsIn n (messages_of y)) same of') in
    let none = names_apart (messages_of x) (messages_in casts) m differ (carried_there casts c m later of) in
    absurd cc
one_carrier (x ∷ casts) c d m n differ (inr later) (inr later') of of' sender number =
    one_carrier casts c d m n (names_behind (messages_of x) (messages_in casts) differ) later later' of of' sender number

-- ---- inside a cast no field but the sender's own grows

same_sums : (g h : CastFields → ℕ) (casts : List CastFields) → ((c : CastFields) → IsIn c casts → g c ≡ h c) → sum_by g casts ≡ sum_by h casts
same_sums g h [] same = refl
same_sums g h (c ∷ casts) same = omega (arith, sum_by-cons g c casts, sum_by-cons h c casts, same c (inl refl), same_sums g h casts (λ d later. same d (inr later)))

-- no other cast of its sender begins inside it
none_begins_inside : (seat : Identity) (facts : List Fact) (c d : CastFields) → StandsAt seat facts → IsIn c (casts_in facts) → IsIn d (casts_in facts)
    → d.sender ≡ c.sender
    → first_number c < first_number d → first_number d ≤ last_number c → ⊥
none_begins_inside seat facts c d s there here sender low high =
    let some = some_at (casts_in facts) c s.some there in
    let first = first_is_carried d (some_at (casts_in facts) d s.some here) in
    let inside = each_number_is_carried c (first_number d) some (omega (arith, low)) high in
    let same =
    one_carrier (casts_in facts) c d inside.found first.found s.names there here inside.there first.there (inside.sender_is ∙ sym sender ∙ sym first.sender_is)
    (inside.number_is ∙ sym first.number_is) in
    let number : first_number c ≡ first_number d = ap first_number same in
    omega (arith, low, number)

same_growth : (seat : Identity) (facts : List Fact) (c d : CastFields) (n k : ℕ) → StandsAt seat facts → IsIn c (casts_in facts) → IsIn d (casts_in facts)
    → first_number c ≤ n → n < last_number c
    → growth_of c.sender (n + 1) k d ≡ growth_of c.sender n k d
same_growth seat facts c d n k s there here low high =
    elim (cases_eq d.sender c.sender) [
      | inl e ↦ ap (λ (b : Bool). cond (eqb d.sender c.sender && b) (growth_in d.changes k) 0) (elim (cases_lt n (first_number d)) [
        | inl above ↦
            let past : n + 1 < first_number d = elim (cases_lt (n + 1) (first_number d)) [
              | inl lt ↦ lt
              | inr le ↦ absurd (none_begins_inside seat facts c d s there here e (omega (arith, low, above)) (omega (arith, high, le)))
            ] in
            lt-leb (first_number d) (n + 1) past ∙ sym (lt-leb (first_number d) n above)
        | inr le ↦ le-leb (first_number d) (n + 1) (omega (arith, le)) ∙ sym (le-leb (first_number d) n le)
      ])
      | inr ne ↦ rw (ne_eqb d.sender c.sender ne) refl
    ]

-- so the time of the next message is as that of the one before it
same_others : (seat : Identity) (facts : List Fact) (c : CastFields) (n k : ℕ) → StandsAt seat facts → IsIn c (casts_in facts) → first_number c ≤ n → n < last_number c
    → k ≢ c.sender
    → expanded_field (casts_in facts) c.sender (n + 1) k ≡ expanded_field (casts_in facts) c.sender n k
same_others seat facts c n k s there low high other =
    rw (ne_eqb k c.sender other)
    (ap (λ (sum : ℕ). min greatest sum) (same_sums (growth_of c.sender (n + 1) k) (growth_of c.sender n k) (casts_in facts) (λ d here. same_growth seat facts c d n k s there here low high)))

-- ---- where no message is ready

abbrev pub IsWhole : Identity → List Fact → CastFields → Type 0
IsWhole seat facts c = (last_number c ≤ delivered seat facts c.sender) ⊎ (delivered seat facts c.sender < first_number c)

-- the message of the cast that would be delivered next
record IsNextOf (seat : Identity) (facts : List Fact) (c : CastFields) (m : Carried) : Type 0 where
  of : IsIn m (messages_of c)
  sender_is : m.sender ≡ c.sender
  number_is : m.number ≡ delivered seat facts c.sender + 1

next_is_expanded : (seat : Identity) (facts : List Fact) (c : CastFields) (m : Carried) → StandsAt seat facts → IsIn c (casts_in facts) → IsNextOf seat facts c m
    → is_expanded (casts_in facts) m ≡ true
next_is_expanded seat facts c m s there next =
    let in_casts = carried_there (casts_in facts) c m there next.of in
    let number = next.number_is in
    all_from_range (is_there (casts_in facts) m.sender) (0 + 1) (m.number - 0) (λ k low high.
    elim (cases_eq k m.number) [
      | inl e ↦ message_is_there (casts_in facts) m m.sender k in_casts refl (sym e)
      | inr ne ↦ subst (λ (i : ℕ). is_there (casts_in facts) i k ≡ true) (sym next.sender_is)
          (seen_is_there seat (casts_in facts) (view seat.group.size facts) (own_casts facts) c.sender k s (omega (arith, low)) (omega (arith, high, number, ne)))
    ])

next_is_new : (seat : Identity) (facts : List Fact) (c : CastFields) (m : Carried) → StandsAt seat facts → IsNextOf seat facts c m
    → is_among (view seat.group.size facts) m ≡ false
next_is_new seat facts c m s next = false_from_ne_true (is_among (view seat.group.size facts) m) (λ among.
    let found = among_is (view seat.group.size facts) m among in
    let bound = order_bound [] (view seat.group.size facts) found.0 s.order found.1 in
    let at : delivered seat facts found.0.sender ≡ delivered seat facts c.sender = ap (delivered seat facts) (found.2 ∙ next.sender_is) in
    let number : found.0.number ≡ delivered seat facts c.sender + 1 = found.3 ∙ next.number_is in
    omega (arith, bound, at, number))

-- the member has delivered the message before it, and so all that the next one's sender had
others_are_reached : (seat : Identity) (facts : List Fact) (c : CastFields) (k : ℕ) → AreFactsOf seat facts → IsIn c (casts_in facts) → 1 ≤ first_number c
    → first_number c ≤ delivered seat facts c.sender → delivered seat facts c.sender < last_number c
    → k < seat.group.size → k ≢ c.sender → expanded_field (casts_in facts) c.sender (delivered seat facts c.sender + 1) k ≤ delivered seat facts k
others_are_reached seat facts c k are there positive low high lt other =
    let s = all_stand seat facts are.member are.facts_are in
    let d = delivered seat facts c.sender in
    let m : Carried = record { sender = c.sender; number = d; payload = [] } in
    let among : is_among (view seat.group.size facts) m ≡ true = among_by_order [] (view seat.group.size facts) m s.order (omega (arith, positive, low)) (omega arith) in
    let reached = times_are_reached seat facts m k are among lt in
    let same = same_others seat facts c d k s there low high other in
    omega (arith, reached, same)

next_is_ready : (seat : Identity) (facts : List Fact) (c : CastFields) (m : Carried) → AreFactsOf seat facts → IsIn c (casts_in facts) → 1 ≤ first_number c
    → first_number c ≤ delivered seat facts c.sender → delivered seat facts c.sender < last_number c
    → IsNextOf seat facts c m → is_ready seat.group.size (casts_in facts) (view seat.group.size facts) m ≡ true
next_is_ready seat facts c m are there positive low high next =
    let seen = view seat.group.size facts in
    let s = all_stand seat facts are.member are.facts_are in
    and_from (not (is_among seen m)) _ (not_from_false (is_among seen m) (next_is_new seat facts c m s next))
    (all_from_range (is_in_time (casts_in facts) seen m) 0 seat.group.size (λ k _ lt. in_time k lt))
  where
    stamp : ℕ → ℕ
    stamp = expanded_field (casts_in facts) m.sender m.number

    at : (k : ℕ) → stamp k ≡ expanded_field (casts_in facts) c.sender (delivered seat facts c.sender + 1) k
    at k = ap (λ (i : ℕ). expanded_field (casts_in facts) i m.number k) next.sender_is ∙ ap (λ (n : ℕ). expanded_field (casts_in facts) c.sender n k) next.number_is

    in_time : (k : ℕ) → k < 0 + seat.group.size → is_in_time (casts_in facts) (view seat.group.size facts) m k ≡ true
    in_time k lt =
        cond_both (eqb k m.sender) _ _ (λ (b : Bool). b ≡ true)
        (λ own. let e = eqb-true k m.sender own in eq-eqb (stamp k) (count (view seat.group.size facts) k + 1)
        (ap stamp e ∙ own_field (casts_in facts) m.sender m.number ∙ next.number_is ∙ ap (λ (i : ℕ). delivered seat facts i + 1) (sym (e ∙ next.sender_is))))
        (λ other. le-leb (stamp k) (count (view seat.group.size facts) k)
        (subst (λ (n : ℕ). n ≤ delivered seat facts k) (sym (at k))
        (others_are_reached seat facts c k are there positive low high (omega (arith, lt)) (λ e. eqb-false k m.sender other (e ∙ sym next.sender_is)))))

-- so where none is ready the cast is whole
settled_is_whole : (seat : Identity) (facts : List Fact) (c : CastFields) → AreFactsOf seat facts → IsIn c (casts_in facts)
    → next_delivery seat.group.size (casts_in facts) (view seat.group.size facts) ≡ None → IsWhole seat facts c
settled_is_whole seat facts c are there none =
    elim (cases_lt (delivered seat facts c.sender) (first_number c)) [
      | inl before ↦ inr before
      | inr low ↦ elim (cases_lt (delivered seat facts c.sender) (last_number c)) [
        | inl high ↦ absurd (not_half low high)
        | inr all ↦ inl all
      ]
    ]
  where
    s : StandsAt seat facts
    s = all_stand seat facts are.member are.facts_are

    some : IsSome c.load
    some = some_at (casts_in facts) c s.some there

    not_half : first_number c ≤ delivered seat facts c.sender → delivered seat facts c.sender < last_number c → ⊥
    not_half low high =
        let first = first_is_carried c some in
        let positive = s.positive first.found (carried_there (casts_in facts) c first.found there first.there) in
        let number = first.number_is in
        let next = each_number_is_carried c (delivered seat facts c.sender + 1) some (omega (arith, low)) (omega (arith, high)) in
        let m = next.found in
        let is : IsNextOf seat facts c m = record { of = next.there; sender_is = next.sender_is; number_is = next.number_is } in
        let expanded =
        in_filter (is_expanded (casts_in facts)) (messages_in (casts_in facts)) m (next_is_expanded seat facts c m s there is)
        (carried_there (casts_in facts) c m there next.there) in
        both_ways (is_ready seat.group.size (casts_in facts) (view seat.group.size facts) m)
        ((nothing_is_next seat.group.size (casts_in facts) (view seat.group.size facts)).0 none m (in_is_one_of m (expanded_in (casts_in facts)) expanded))
        (next_is_ready seat facts c m are there (omega (arith, number, positive)) low high is)

-- ---- all facts

-- the member's own casts are delivered
own_is_whole : (seat : Identity) (facts : List Fact) (c : CastFields) → AreFactsOf seat facts → IsIn c (casts_in facts) → c.sender ≡ seat.me → IsWhole seat facts c
own_is_whole seat facts c are there own =
    let s = all_stand seat facts are.member are.facts_are in
    let last = last_is_carried c (some_at (casts_in facts) c s.some there) in
    let upto =
    own_is_delivered seat facts (last_number c) are
    (message_is_there (casts_in facts) last.found seat.me (last_number c) (carried_there (casts_in facts) c last.found there last.there) (last.sender_is ∙ own) last.number_is) in
    let at : delivered seat facts c.sender ≡ delivered seat facts seat.me = ap (delivered seat facts) own in
    inl (omega (arith, upto, at))

-- with another view that counts as many of its sender
whole_still : (seat : Identity) (facts now : List Fact) (c : CastFields) → delivered seat now c.sender ≡ delivered seat facts c.sender → IsWhole seat facts c
    → IsWhole seat now c
whole_still seat facts now c same whole = elim whole [ inl all ↦ inl (omega (arith, same, all)) | inr none ↦ inr (omega (arith, same, none)) ]

whole_after : (seat : Identity) (facts : List Fact) (f : Fact) (c : CastFields) → AreFactsOf seat (facts ++ f ∷ []) → (IsIn c (casts_in facts) → IsWhole seat facts c)
    → IsIn c (casts_in (facts ++ f ∷ [])) → IsWhole seat (facts ++ f ∷ []) c
whole_after seat facts (OwnCast d) c are before there =
    let number = own_number seat facts d (all_stand seat (facts ++ OwnCast d ∷ []) are.member are.facts_are) in
    elim (cases_eq c.sender seat.me) [
      | inl own ↦ own_is_whole seat (facts ++ OwnCast d ∷ []) c are there own
      | inr other ↦ elim (in_push c d (casts_in facts) (subst (IsIn c) (casts_in-append facts (OwnCast d)) there)) [
        | inl old ↦ whole_still seat facts (facts ++ OwnCast d ∷ []) c (own_cast_counts seat facts d c.sender number.0 other) (before old)
        | inr same ↦ absurd (other (ap (λ (x : CastFields). x.sender) same ∙ number.0))
      ]
    ]
whole_after seat facts (CastReceived d) c are before there =
    settled_is_whole seat (facts ++ CastReceived d ∷ []) c are there
    (ap (next_delivery seat.group.size (casts_in (facts ++ CastReceived d ∷ []))) (view_with_one_more seat.group.size facts (CastReceived d)) ∙ nothing_ready_is_left seat.group.size (casts_in (facts ++ CastReceived d ∷ [])) (view seat.group.size facts))
whole_after seat facts (StatusReceived t) c are before there =
    whole_still seat facts (facts ++ StatusReceived t ∷ []) c (ap (λ (ms : List Carried). count ms c.sender) (view_status seat.group.size facts t))
    (before (subst (IsIn c) (casts_in-append facts (StatusReceived t) ∙ append-nil (casts_in facts)) there))
whole_after seat facts (OwnStatus t) c are before there =
    whole_still seat facts (facts ++ OwnStatus t ∷ []) c (ap (λ (ms : List Carried). count ms c.sender) (view_reported seat.group.size facts t))
    (before (subst (IsIn c) (casts_in-append facts (OwnStatus t) ∙ append-nil (casts_in facts)) there))

all_whole : (seat : Identity) (facts : List Fact) (c : CastFields) → AreParameters seat.group → seat.me < seat.group.size → AreLegalFacts seat facts
    → IsIn c (casts_in facts) → IsWhole seat facts c
all_whole seat _ c group member NoFacts there = absurd there
all_whole seat _ c group member (OneFactMore facts f before step) there =
    whole_after seat facts f c (record { group = group; member = member; facts_are = OneFactMore facts f before step })
    (λ old. all_whole seat facts c group member before old) there

-- a cast that is there is whole
pub is_whole : (seat : Identity) (facts : List Fact) (c : CastFields) → AreFactsOf seat facts → IsIn c (casts_in facts) → IsWhole seat facts c
is_whole seat facts c are there = all_whole seat facts c are.group are.member are.facts_are there

pub casts_are_whole : DeliveredWhole
casts_are_whole seat facts c are there = is_whole seat facts c are (cast_of_is_in c (casts_in facts) there)
