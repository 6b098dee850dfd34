-- Marks for the places that were claimed.
use Rattle.std.proofs.Common.{◌≡◌, ◌≢◌, ℕ, zero, suc, ◌+◌, ◌<◌, ◌≤◌, ◌==◌, inl, inr, Bool, true, false, List, [], ◌∷◌, ◌++◌, length, set, replicate, Some, slice_get, if◌then◌else◌, refl, sym, ap, ◌∙◌, subst, arith}
use Rattle.std.proofs.lemmas.List.{length-append, length-set, length-replicate}
use Rattle.std.proofs.lemmas.Option.{slice_get_within}
use Rattle.std.proofs.lemmas.Bool.{cases_eq, eq-eqb, ne_eqb}
use Rattle.cb_history.specs.Facts.{EntryFields}
use Rattle.cb_lock.specs.Claims.{times}
use Rattle.cb_lock.specs.Seen.{marks_set, Marks}

abbrev one_if : Bool → ℕ
one_if b = if b then 1 else 0

-- ---- how often a number stands in a list

times_push : (k : ℕ) (xs : List ℕ) (x : ℕ) → times k (xs ++ x ∷ []) ≡ times k xs + (if x == k then 1 else 0)
times_push k [] x = omega arith
times_push k (y ∷ ys) x = omega (arith, times_push k ys x)

times_same : (k : ℕ) (xs : List ℕ) → times k xs ≡ 0 → times k (xs ++ k ∷ []) ≡ 1
times_same k xs none = omega (arith, times_push k xs k, none, ap one_if (eq-eqb k k refl))

times_other : (k x : ℕ) (xs : List ℕ) → x ≢ k → times k (xs ++ x ∷ []) ≡ times k xs
times_other k x xs ne = omega (arith, times_push k xs x, ap one_if (ne_eqb x k ne))

-- ---- marks

marks_unset : (n : ℕ) → marks_set (replicate n false) ≡ 0
marks_unset zero = refl
marks_unset (suc n) = omega (arith, marks_unset n)

unset : (n k : ℕ) (b : Bool) → slice_get (replicate n false) k ≡ Some b → b ≡ false
unset zero k b h = absurd cc
unset (suc n) zero b h = cc
unset (suc n) (suc k) b h = unset n k b h

pub starts : (entries : List EntryFields) (n : ℕ) → n ≡ length entries → Marks entries (replicate n false) []
starts entries n is = record {
  many = length-replicate n false ∙ is;
  marked = λ k b at. sym (ap one_if (unset n k b at));
  total = marks_unset n;
}

marks_more : (seen : List Bool) (i : ℕ) → slice_get seen i ≡ Some false → marks_set (set seen i true) ≡ 1 + marks_set seen
marks_more [] i h = absurd cc
marks_more (true ∷ bs) zero h = absurd cc
marks_more (false ∷ bs) zero h = omega arith
marks_more (b ∷ bs) (suc i) h = omega (arith, marks_more bs i h)

get_set : (seen : List Bool) (i : ℕ) (c : Bool) → i < length seen → slice_get (set seen i c) i ≡ Some c
get_set [] i c lt = absurd (omega arith)
get_set (b ∷ bs) zero c lt = refl
get_set (b ∷ bs) (suc i) c lt = get_set bs i c (omega arith)

get_other : (seen : List Bool) (i k : ℕ) (c : Bool) → k ≢ i → slice_get (set seen i c) k ≡ slice_get seen k
get_other [] i k c ne = refl
get_other (b ∷ bs) zero zero c ne = absurd (ne refl)
get_other (b ∷ bs) zero (suc k) c ne = refl
get_other (b ∷ bs) (suc i) zero c ne = refl
get_other (b ∷ bs) (suc i) (suc k) c ne = get_other bs i k c (λ e. ne (ap suc e))

-- a place that is new is marked
pub marks : (entries : List EntryFields) (index : ℕ) (seen : List Bool) (places : List ℕ) → Marks entries seen places → slice_get seen index ≡ Some false → Marks entries (set seen index true) (places ++ suc index ∷ [])
marks entries index seen places m at =
    let within = slice_get_within seen index false at in
    let none : times (suc index) places ≡ 0 = m.marked index false at in
    record {
      many = length-set seen index true ∙ m.many;
      marked = λ k b here.
          elim (cases_eq k index) [
            | inl e ↦
                let is : Some true ≡ Some b = sym (get_set seen index true within) ∙ ap (slice_get (set seen index true)) (sym e) ∙ here in
                let set_is : b ≡ true = cc in
                subst (λ (j : ℕ). times (suc j) (places ++ suc index ∷ []) ≡ (if b then 1 else 0)) (sym e) (times_same (suc index) places none ∙ ap one_if (sym set_is))
            | inr ne ↦
                times_other (suc k) (suc index) places (λ e. ne (omega (arith, e)))
                ∙ m.marked k b (sym (get_other seen index k true ne) ∙ here)
          ];
      total = omega (arith, marks_more seen index at, m.total, length-append places (suc index ∷ []));
    }

-- ---- every mark is set

few : (seen : List Bool) → marks_set seen ≤ length seen
few [] = omega arith
few (true ∷ bs) = omega (arith, few bs)
few (false ∷ bs) = omega (arith, few bs)

all_set : (seen : List Bool) (k : ℕ) → length seen ≤ marks_set seen → k < length seen → slice_get seen k ≡ Some true
all_set [] k full lt = absurd (omega arith)
all_set (true ∷ bs) zero full lt = refl
all_set (true ∷ bs) (suc k) full lt = all_set bs k (omega (arith, full)) (omega (arith, lt))
all_set (false ∷ bs) k full lt = absurd (omega (arith, full, few bs))

-- as many places as entries, none twice: each is there once
pub each_once : (entries : List EntryFields) (seen : List Bool) (places : List ℕ) → Marks entries seen places → length entries ≤ length places → (k : ℕ) → 1 ≤ k → k ≤ length entries → times k places ≡ 1
each_once entries seen places m enough zero low high = absurd (omega arith)
each_once entries seen places m enough (suc k) low high =
    m.marked k true (all_set seen k (omega (arith, m.many, m.total, enough)) (omega (arith, m.many, high)))
