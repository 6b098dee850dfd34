-- Rows of which none says anything.
use Rattle.std.proofs.Common.{◌≡◌, ℕ, zero, suc, List, [], length, replicate, ap, ◌∙◌, sym, subst, refl, inl, inr}
use Rattle.std.specs.Prelude.{All, slice_index}
use Rattle.std.proofs.lemmas.List.{get_or_past, length-replicate}
use Rattle.std.proofs.lemmas.Bool.{cases_lt}
use Rattle.cb_times.specs.Group.{IsGroupSize}
use Rattle.cb_stability.specs.Known.{count, IsUnknown}
use Rattle.cb_stability.specs.Rows.{AreRows, known_of}

-- each row has a zero for each member
abbrev pub AreZero : ℕ → List (List ℕ) → Type 0
AreZero size rows = All (λ row. row ≡ replicate size 0) rows

zero_at : (n i : ℕ) → slice_index (replicate n 0) i ≡ 0
zero_at zero i = refl
zero_at (suc n) zero = refl
zero_at (suc n) (suc i) = zero_at n i

module _ (size : ℕ) (rows : List (List ℕ)) (made : length rows ≡ size) where
  pub rows_made : IsGroupSize size → AreZero size rows → AreRows rows
  rows_made group none = record {
    group = subst IsGroupSize (sym made) group;
    square = λ k d below. ap length (none k d below) ∙ length-replicate size 0 ∙ sym made;
  }

  none_counted : AreZero size rows → (k i : ℕ) → count (known_of rows) k i ≡ 0
  none_counted none k i =
      elim (cases_lt k (length rows)) as (λ _. count (known_of rows) k i ≡ 0) [
        | inl below ↦ ap (λ (row : List ℕ). slice_index row i) (none k [] below) ∙ zero_at size i
        | inr past ↦ ap (λ (row : List ℕ). slice_index row i) (get_or_past rows k [] past)
      ]

  pub unknown_made : AreZero size rows → IsUnknown size (known_of rows)
  unknown_made none = record { of_size = made; none = none_counted none }
