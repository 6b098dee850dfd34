-- Of two lists of fields one can tell how they compare.
use Rattle.std.proofs.Common.{ℕ, zero, suc, ◌<◌, ◌≤◌, ◌⊎◌, inl, inr, List, [], ◌∷◌, arith}
use Rattle.std.proofs.lemmas.Bool.{cases_lt}
use Rattle.cb_times.specs.declared.order.TimeOrder.TheVariants.{Before, After, Same, Concurrent}
use Rattle.cb_times.specs.Order.{field, AtMost}
use Rattle.cb_times.specs.Laws.{ComparesSomehow}

at_most_none : (x : ℕ) (a : List ℕ) → x ≤ 0 → AtMost (field a) (field []) → AtMost (field (x ∷ a)) (field [])
at_most_none x a first rest zero = first
at_most_none x a first rest (suc k) = rest k

at_most_cons : (x y : ℕ) (a b : List ℕ) → x ≤ y → AtMost (field a) (field b) → AtMost (field (x ∷ a)) (field (y ∷ b))
at_most_cons x y a b first rest zero = first
at_most_cons x y a b first rest (suc k) = rest k

-- each field is at most the other's, or one is greater
pub at_most_or_greater : (a b : List ℕ) → AtMost (field a) (field b) ⊎ ((k : ℕ) × (field b k < field a k))
at_most_or_greater [] b = inl (λ k. omega arith)
at_most_or_greater (x ∷ a) [] =
    elim (cases_lt 0 x) [
      | inl first ↦ inr (0, first)
      | inr none ↦ elim (at_most_or_greater a []) [
        | inl below ↦ inl (at_most_none x a none below)
        | inr greater ↦ inr (suc greater.0, greater.1)
      ]
    ]
at_most_or_greater (x ∷ a) (y ∷ b) =
    elim (cases_lt y x) [
      | inl first ↦ inr (0, first)
      | inr none ↦ elim (at_most_or_greater a b) [
        | inl below ↦ inl (at_most_cons x y a b none below)
        | inr greater ↦ inr (suc greater.0, greater.1)
      ]
    ]

pub compares_somehow : ComparesSomehow
compares_somehow a b =
    elim (at_most_or_greater a b) [
      | inl below ↦ elim (at_most_or_greater b a) [
        | inl above ↦ (Same, λ k. omega (arith, below k, above k))
        | inr less ↦ (Before, (below, less))
      ]
      | inr greater ↦ elim (at_most_or_greater b a) [
        | inl above ↦ (After, (above, greater))
        | inr less ↦ (Concurrent, ((λ below. omega (arith, below greater.0, greater.1)), (λ above. omega (arith, above less.0, less.1))))
      ]
    ]
