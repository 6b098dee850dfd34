-- Fields that rise are all of a group where the last one is.
use Rattle.std.proofs.Common.{inl, inr, ◌≡◌, ℕ, suc, ◌+◌, ◌-◌, ◌≤◌, Bool, true, false, ltb, ◌&&◌, List, [], ◌∷◌, length, Some, refl, sym, ap, ◌∙◌, arith}
use Rattle.std.specs.Prelude.{slice_get}
use Rattle.std.specs.List.{list_all}
use Rattle.std.proofs.Math.Bool.{and-false}
use Rattle.std.proofs.lemmas.Bool.{cases_lt, lt-ltb, le-ltb}
use Rattle.cb_frames.specs.declared.frame.Change.{Change}
use Rattle.cb_frames.specs.Text.{RisesFrom}

only_one : (x d : Change) → slice_get (x ∷ []) (length (x ∷ []) - 1) ≡ Some d → x ≡ d
only_one x d at = cc

behind : (x y d : Change) (ds : List Change) → slice_get (x ∷ y ∷ ds) (length (x ∷ y ∷ ds) - 1) ≡ Some d → slice_get (y ∷ ds) (length (y ∷ ds) - 1) ≡ Some d
behind x y d ds at =
    let one_on : length (x ∷ y ∷ ds) - 1 ≡ suc (length (y ∷ ds) - 1) = omega arith in
    sym (ap (slice_get (x ∷ y ∷ ds)) one_on) ∙ at

-- the last one is no less than what they rise from
from_least : (least : ℕ) (ds : List Change) (d : Change) → RisesFrom least ds → slice_get ds (length ds - 1) ≡ Some d → least ≤ d.field
from_least least [] d rises at = absurd cc
from_least least (x ∷ []) d rises at = let low = rises.0 in omega (arith, low, ap (λ (y : Change). y.field) (only_one x d at))
from_least least (x ∷ y ∷ ds) d rises at =
    let low = rises.0 in
    let more = from_least (x.field + 1) (y ∷ ds) d rises.1 (behind x y d ds at) in
    omega (arith, low, more)

pub all_by_last : (size least : ℕ) (ds : List Change) (d : Change) → RisesFrom least ds → slice_get ds (length ds - 1) ≡ Some d → list_all (λ x. ltb x.field size) ds ≡ ltb d.field size
all_by_last size least [] d rises at = absurd cc
all_by_last size least (x ∷ []) d rises at = rw (only_one x d at) (by_cases (ltb d.field size))
  where
    by_cases : (b : Bool) → (b && true) ≡ b
    by_cases true = refl
    by_cases false = refl
all_by_last size least (x ∷ y ∷ ds) d rises at =
    let rest = all_by_last size (x.field + 1) (y ∷ ds) d rises.1 (behind x y d ds at) in
    let more = from_least (x.field + 1) (y ∷ ds) d rises.1 (behind x y d ds at) in
    ap (λ (b : Bool). ltb x.field size && b) rest ∙ elim (cases_lt d.field size) [
      | inl small ↦ rw (lt-ltb d.field size small, lt-ltb x.field size (omega (arith, small, more))) refl
      | inr large ↦ rw (le-ltb d.field size large) (and-false (ltb x.field size))
    ]
