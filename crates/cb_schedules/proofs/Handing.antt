-- What a member hands on of another's casts, and whom it asks for help.
use Rattle.std.proofs.Common.{◌≡◌, ◌≢◌, ℕ, ◌<◌, Bool, true, not, ◌&&◌, eqb, leb, ltb, List, [], ◌∷◌, length, ◌-◌, ◌≤◌, Option, Some, refl, sym, ap, subst, ◌∙◌, arith, inl, inr}
use Rattle.std.specs.List.{filter, range_with_len}
use Rattle.std.proofs.lemmas.Bool.{cond_both, eqb-false, ne_eqb, le-leb, leb-true, and_parts, and_from}
use Rattle.cb_frames.specs.Fields.{CastFields, first_number, last_number}
use Rattle.cb_history.specs.Group.{Identity}
use Rattle.cb_history.specs.Facts.{Fact, casts_in, numbers_between}
use Rattle.cb_history.specs.View.{count, view}
use Rattle.cb_history.specs.Known.{acknowledged_of, stable_of}
use Rattle.cb_history.specs.Helping.{casts_at, casts_between, delivered_casts, handed_on, first_where, helper_for}
use Rattle.cb_history.proofs.Views.{IsIn, filter_in, not_true}
use Rattle.cb_history.proofs.Keeping.{range_in, in_range}
use Rattle.cb_schedules.proofs.Lists.{in_drop, flat_in}

-- ---- casts that are handed on

-- they are there
pub handed_on_is_there : (seat : Identity) (facts : List Fact) (i : ℕ) (c : CastFields) → IsIn c (handed_on seat facts i) → IsIn c (casts_in facts)
handed_on_is_there seat facts i c there =
    let high = count (view seat.group.size facts) i in
    let unstable : List CastFields = filter (λ c. ltb (stable_of seat facts i) (last_number c)) (delivered_casts seat facts i) in
    let kept = filter_in (λ c. ltb (stable_of seat facts i) (last_number c)) (delivered_casts seat facts i) c (in_drop (length unstable - seat.group.window) unstable c there) in
    let whole = filter_in (λ c. leb (last_number c) high) (casts_between (casts_in facts) i 0 high) c kept.1 in
    let (n, at, here) = flat_in (casts_at (casts_in facts) i) (numbers_between 0 high) c whole.1 in
    (filter_in (λ c. eqb c.sender i && eqb (first_number c) n) (casts_in facts) c here).1

-- ---- the member that is asked

first_passes : (holds : ℕ → Bool) (ns : List ℕ) (k : ℕ) → first_where holds ns ≡ Some k → (holds k ≡ true) × IsIn k ns
first_passes holds [] k = λ found. absurd cc
first_passes holds (n ∷ ns) k =
    cond_both (holds n) (Some n) (first_where holds ns) (λ (o : Option ℕ). o ≡ Some k → (holds k ≡ true) × IsIn k (n ∷ ns))
    (λ yes found. let same : n ≡ k = cc in (subst (λ (l : ℕ). holds l ≡ true) same yes, inl (sym same)))
    (λ _ found. let rest = first_passes holds ns k found in (rest.0, inr rest.1))

-- it is a third one
pub helper_is_third : (seat : Identity) (facts : List Fact) (i n k : ℕ) → helper_for seat facts i n ≡ Some k → (k < seat.group.size) × (k ≢ i) × (k ≢ seat.me)
helper_is_third seat facts i n k found =
    let first = first_passes (λ k. not (eqb k i) && not (eqb k seat.me) && leb n (acknowledged_of seat facts k i)) (range_with_len 0 seat.group.size) k found in
    let all = and_parts (not (eqb k i) && not (eqb k seat.me)) (leb n (acknowledged_of seat facts k i)) first.0 in
    let both = and_parts (not (eqb k i)) (not (eqb k seat.me)) all.0 in
    let small = range_in 0 seat.group.size k first.1 in
    (omega (arith, small), eqb-false k i (not_true (eqb k i) both.0), eqb-false k seat.me (not_true (eqb k seat.me) both.1))

passes_first : (holds : ℕ → Bool) (ns : List ℕ) (k : ℕ) → holds k ≡ true → IsIn k ns → (l : ℕ) × (first_where holds ns ≡ Some l)
passes_first holds [] k at there = absurd there
passes_first holds (n ∷ ns) k at (inl same) = (n, rw (ap holds (sym same) ∙ at) refl)
passes_first holds (n ∷ ns) k at (inr later) =
    let rest = passes_first holds ns k at later in
    cond_both (holds n) (Some n) (first_where holds ns) (λ (o : Option ℕ). (l : ℕ) × (o ≡ Some l)) (λ _. (n, refl)) (λ _. rest)

-- where a third member is known to have delivered the message, one is asked that is known to
pub helper_is_found : (seat : Identity) (facts : List Fact) (i n k : ℕ) → k < seat.group.size → k ≢ i → k ≢ seat.me → n ≤ acknowledged_of seat facts k i
    → (l : ℕ) × (helper_for seat facts i n ≡ Some l) × (n ≤ acknowledged_of seat facts l i)
helper_is_found seat facts i n k lt other third known =
    let holds : ℕ → Bool = λ k. not (eqb k i) && not (eqb k seat.me) && leb n (acknowledged_of seat facts k i) in
    let at : holds k ≡ true =
    and_from (not (eqb k i) && not (eqb k seat.me)) (leb n (acknowledged_of seat facts k i))
    (and_from (not (eqb k i)) (not (eqb k seat.me)) (rw (ne_eqb k i other) refl) (rw (ne_eqb k seat.me third) refl)) (le-leb n (acknowledged_of seat facts k i) known) in
    let (l, found) = passes_first holds (range_with_len 0 seat.group.size) k at (in_range 0 seat.group.size k (omega arith) (omega (arith, lt))) in
    let passes = (first_passes holds (range_with_len 0 seat.group.size) l found).0 in
    (l, found, leb-true n (acknowledged_of seat facts l i) (and_parts (not (eqb l i) && not (eqb l seat.me)) (leb n (acknowledged_of seat facts l i)) passes).1)
