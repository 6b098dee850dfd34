-- Before each message of the view stands all that it had seen.
use Rattle.std.proofs.Common.{◌≡◌, ◌≢◌, ℕ, ◌+◌, ◌<◌, ◌≤◌, List, [], ◌∷◌, ◌++◌, Some, refl, sym, ap, subst, ◌∙◌, append_assoc, arith, inl, inr}
use Rattle.std.specs.List.{list_all, range_with_len}
use Rattle.std.proofs.lemmas.Bool.{cases_eq}
use Rattle.std.proofs.lemmas.List.{append-nil}
use Rattle.cb_frames.specs.Fields.{CastFields, Carried, messages_of, first_number}
use Rattle.cb_frames.specs.Carrying.{AreNumberedFrom}
use Rattle.cb_frames.proofs.Carried.{carried_in_order}
use Rattle.cb_diffs.specs.Expansion.{expanded_field}
use Rattle.cb_history.specs.Group.{Identity}
use Rattle.cb_history.specs.Facts.{Fact, OwnCast, CastReceived, StatusReceived, OwnStatus, casts_in}
use Rattle.cb_history.specs.View.{count, is_in_time, next_delivery, drain, view}
use Rattle.cb_history.specs.Answers.{own_casts, delivered}
use Rattle.cb_history.specs.LegalFacts.{AreLegalFacts, NoFacts, OneFactMore}
use Rattle.cb_history.specs.TimeLaws.{InTimeAfter, ViewIsInTime, TimesAreReached}
use Rattle.cb_history.proofs.Views.{IsIn, next_is, casts_in-append, test_true, all_in_range}
use Rattle.cb_history.proofs.Walks.{drain_keeps, view_own, view_received, view_status, view_reported}
use Rattle.cb_history.proofs.Lists.{among_is, count-append, count_own, count_other}
use Rattle.cb_history.proofs.Names.{StandsAt, all_stand}
use Rattle.cb_history.proofs.Times.{seen_is_expanded, stays, own_number, own_first, tells, own_field, in_time_reached}

-- the time of the message is reached by these
abbrev IsReached : ℕ → List CastFields → Carried → List Carried → Type 0
IsReached size casts m seen = (k : ℕ) → k < size → expanded_field casts m.sender m.number k ≤ count seen k

in_time_append : (size : ℕ) (casts : List CastFields) (before ms more : List Carried) → InTimeAfter size casts before ms → InTimeAfter size casts (before ++ ms) more → InTimeAfter size casts before (ms ++ more)
in_time_append size casts before [] more all next = subst (λ (seen : List Carried). InTimeAfter size casts seen more) (append-nil before) next
in_time_append size casts before (x ∷ ms) more all next =
    (all.0, in_time_append size casts (before ++ x ∷ []) ms more all.1 (subst (λ (seen : List Carried). InTimeAfter size casts seen more) (sym (append_assoc before (x ∷ []) ms)) next))

-- the next messages of a member are in time, where the others' fields of their times count no more than what stands before
own_in_time : (size : ℕ) (casts : List CastFields) (before : List Carried) (me n : ℕ) (ms : List Carried) → AreNumberedFrom me n ms → n ≡ count before me + 1
    → ((number k : ℕ) → k < size → k ≢ me → n ≤ number → expanded_field casts me number k ≤ count before k) → InTimeAfter size casts before ms
own_in_time size casts before me n [] row next others = tt
own_in_time size casts before me n (m ∷ ms) row next others = (
  λ k lt. elim (cases_eq k me) [
    | inl e ↦
        let own : expanded_field casts m.sender m.number k ≡ m.number = ap (expanded_field casts m.sender m.number) (e ∙ sym row.0) ∙ own_field casts m.sender m.number in
        let at : count before k ≡ count before me = ap (count before) e in
        omega (arith, own, at, row.1, next, count_own before m k (row.0 ∙ sym e))
    | inr ne ↦
        let at : expanded_field casts m.sender m.number k ≡ expanded_field casts me m.number k = ap (λ (i : ℕ). expanded_field casts i m.number k) row.0 in
        omega (arith, at, others m.number k lt ne (omega (arith, row.1)), count_other before m k (λ q. ne (sym q ∙ row.0)))
  ],
  own_in_time size casts (before ++ m ∷ []) me (n + 1) ms row.2 (omega (arith, next, count_own before m me row.0))
      (λ number k lt ne le. omega (arith, others number k lt ne (omega (arith, le)), count-append before (m ∷ []) k)),
)

in_time_push : (size : ℕ) (casts : List CastFields) (before ms : List Carried) (m : Carried) → InTimeAfter size casts before ms → IsReached size casts m ((before ++ ms) ++ m ∷ []) → InTimeAfter size casts before (ms ++ m ∷ [])
in_time_push size casts before [] m all here = (subst (λ (seen : List Carried). IsReached size casts m (seen ++ m ∷ [])) (append-nil before) here, tt)
in_time_push size casts before (x ∷ ms) m all here =
    (all.0, in_time_push size casts (before ++ x ∷ []) ms m all.1 (subst (λ (seen : List Carried). IsReached size casts m (seen ++ m ∷ [])) (sym (append_assoc before (x ∷ []) ms)) here))

same_times : (size : ℕ) (casts now : List CastFields) (before ms : List Carried) → ((m : Carried) → IsIn m ms → (k : ℕ) → expanded_field now m.sender m.number k ≡ expanded_field casts m.sender m.number k) → InTimeAfter size casts before ms → InTimeAfter size now before ms
same_times size casts now before [] same all = tt
same_times size casts now before (x ∷ ms) same all =
    (λ k lt. subst (λ (n : ℕ). n ≤ count (before ++ x ∷ []) k) (sym (same x (inl refl) k)) (all.0 k lt), same_times size casts now (before ++ x ∷ []) ms (λ m there. same m (inr there)) all.1)

in_time_next : (size : ℕ) (casts : List CastFields) (seen : List Carried) (m : Carried) → InTimeAfter size casts [] seen → next_delivery size casts seen ≡ Some m → InTimeAfter size casts [] (seen ++ m ∷ [])
in_time_next size casts seen m all e =
    let next = next_is size casts seen m e in
    let rule = test_true _ (list_all (is_in_time casts seen m) (range_with_len 0 size)) next.0 in
    in_time_push size casts [] seen m all (λ k lt. in_time_reached casts seen m k (all_in_range (is_in_time casts seen m) 0 size k rule.1 (omega arith) (omega (arith, lt))))

abbrev InTimeAt : Identity → List Fact → Type 0
InTimeAt seat facts = InTimeAfter seat.group.size (casts_in facts) [] (view seat.group.size facts)

-- what was seen before keeps its times
in_time_stays : (seat : Identity) (facts : List Fact) (f : Fact) → StandsAt seat facts → StandsAt seat (facts ++ f ∷ []) → InTimeAt seat facts → InTimeAfter seat.group.size (casts_in (facts ++ f ∷ [])) [] (view seat.group.size facts)
in_time_stays seat facts f s after all =
    same_times seat.group.size (casts_in facts) (casts_in (facts ++ f ∷ [])) [] (view seat.group.size facts)
    (λ m there k. stays seat facts f m k after (seen_is_expanded seat (casts_in facts) (view seat.group.size facts) (own_casts facts) m s there)) all

in_time_step : (seat : Identity) (facts : List Fact) (f : Fact) → seat.me < seat.group.size → AreLegalFacts seat (facts ++ f ∷ []) → StandsAt seat facts → InTimeAt seat facts → InTimeAt seat (facts ++ f ∷ [])
in_time_step seat facts (OwnCast c) member legal s all =
    let after = all_stand seat (facts ++ OwnCast c ∷ []) member legal in
    let row = subst (λ (i : ℕ). AreNumberedFrom i (first_number c) (messages_of c)) (own_number seat facts c after).0 (carried_in_order c) in
    subst (InTimeAfter seat.group.size (casts_in (facts ++ OwnCast c ∷ [])) []) (sym (view_own seat.group.size facts c))
    (in_time_append seat.group.size (casts_in (facts ++ OwnCast c ∷ [])) [] (view seat.group.size facts) (messages_of c) (in_time_stays seat facts (OwnCast c) s after all)
    (own_in_time seat.group.size (casts_in (facts ++ OwnCast c ∷ [])) (view seat.group.size facts) seat.me (first_number c) (messages_of c) row (own_first seat facts c after)
    (λ number k lt ne le. let is = tells seat facts c number k member legal lt ne le in omega (arith, is))))
in_time_step seat facts (CastReceived c) member legal s all =
    let after = all_stand seat (facts ++ CastReceived c ∷ []) member legal in
    let old : InTimeAfter seat.group.size (casts_in facts ++ c ∷ []) [] (view seat.group.size facts) =
    subst (λ (cs : List CastFields). InTimeAfter seat.group.size cs [] (view seat.group.size facts)) (casts_in-append facts (CastReceived c)) (in_time_stays seat facts (CastReceived c) s after all) in
    let drained : InTimeAfter seat.group.size (casts_in facts ++ c ∷ []) [] (drain seat.group.size (casts_in facts ++ c ∷ []) (view seat.group.size facts)) =
    drain_keeps seat.group.size (casts_in facts ++ c ∷ []) (InTimeAfter seat.group.size (casts_in facts ++ c ∷ []) []) (in_time_next seat.group.size (casts_in facts ++ c ∷ [])) (view seat.group.size facts) old in
    subst (InTimeAfter seat.group.size (casts_in (facts ++ CastReceived c ∷ [])) []) (sym (view_received seat.group.size facts c))
    (subst (λ (cs : List CastFields). InTimeAfter seat.group.size cs [] (drain seat.group.size (casts_in facts ++ c ∷ []) (view seat.group.size facts))) (sym (casts_in-append facts (CastReceived c))) drained)
in_time_step seat facts (StatusReceived t) member legal s all =
    subst (InTimeAfter seat.group.size (casts_in (facts ++ StatusReceived t ∷ [])) []) (sym (view_status seat.group.size facts t)) (in_time_stays seat facts (StatusReceived t) s (all_stand seat (facts ++ StatusReceived t ∷ []) member legal) all)
in_time_step seat facts (OwnStatus t) member legal s all =
    subst (InTimeAfter seat.group.size (casts_in (facts ++ OwnStatus t ∷ [])) []) (sym (view_reported seat.group.size facts t)) (in_time_stays seat facts (OwnStatus t) s (all_stand seat (facts ++ OwnStatus t ∷ []) member legal) all)

none_in_time : (seat : Identity) → InTimeAt seat []
unfolding view
none_in_time seat = tt

all_in_time : (seat : Identity) (facts : List Fact) → seat.me < seat.group.size → AreLegalFacts seat facts → InTimeAt seat facts
all_in_time seat _ member NoFacts = none_in_time seat
all_in_time seat _ member (OneFactMore facts f before step) =
    in_time_step seat facts f member (OneFactMore facts f before step) (all_stand seat facts member before) (all_in_time seat facts member before)

pub view_is_in_time : ViewIsInTime
view_is_in_time seat facts are = all_in_time seat facts are.member are.facts_are

-- ---- what was delivered before it

-- so the view reaches the time of each of its messages
in_time_reached_by_all : (size : ℕ) (casts : List CastFields) (before ms : List Carried) (m : Carried) (k : ℕ) → InTimeAfter size casts before ms → IsIn m ms → k < size → expanded_field casts m.sender m.number k ≤ count (before ++ ms) k
in_time_reached_by_all size casts before [] m k all there lt = absurd there
in_time_reached_by_all size casts before (x ∷ ms) m k all (inl same) lt =
    let more : count (before ++ x ∷ ms) k ≡ count (before ++ x ∷ []) k + count ms k = ap (λ (seen : List Carried). count seen k) (sym (append_assoc before (x ∷ []) ms)) ∙ count-append (before ++ x ∷ []) ms k in
    subst (λ (y : Carried). expanded_field casts y.sender y.number k ≤ count (before ++ x ∷ ms) k) (sym same) (omega (arith, all.0 k lt, more))
in_time_reached_by_all size casts before (x ∷ ms) m k all (inr later) lt =
    subst (λ (seen : List Carried). expanded_field casts m.sender m.number k ≤ count seen k) (append_assoc before (x ∷ []) ms) (in_time_reached_by_all size casts (before ++ x ∷ []) ms m k all.1 later lt)

pub times_are_reached : TimesAreReached
times_are_reached seat facts m k are among lt =
    let found = among_is (view seat.group.size facts) m among in
    let reached = in_time_reached_by_all seat.group.size (casts_in facts) [] (view seat.group.size facts) found.0 k (view_is_in_time seat facts are) found.1 lt in
    subst (λ (s : ℕ). expanded_field (casts_in facts) s m.number k ≤ delivered seat facts k) found.2 (subst (λ (n : ℕ). expanded_field (casts_in facts) found.0.sender n k ≤ delivered seat facts k) found.3 reached)
