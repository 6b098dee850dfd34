-- The frames found in some ranges, as far as the window has been looked through.
use Rattle.std.proofs.Common.{◌≡◌, ◌≢◌, ℕ, suc, ◌+◌, ◌-◌, ◌≤◌, ◌↔◌, true, false, cond, List, [], ◌∷◌, ◌++◌, length, map, take, sym, ◌∙◌, ap, arith, refl}
use Rattle.std.specs.Prelude.{filter, max}
use Rattle.std.proofs.lemmas.Bool.Decides.{nat_tests}
use Rattle.std.proofs.lemmas.List.{append_assoc, length-append}
use Rattle.cb_frames.specs.declared.frame.Range.{Range}
use Rattle.cb_stability.specs.Ranges.{is_in, meets}
use Rattle.cb_stability.specs.declared.ring.Spanned.{Spanned}
use Rattle.cb_stability.specs.Sent.{is_in_ranges, first_in}

-- a range meets the numbers from first to last where one of them is in it
pub meets_a_number : (first last : ℕ) (range : Range) → (meets first last range ≡ true) ↔ ((n : ℕ) × (first ≤ n) × (n ≤ last) × (is_in n range ≡ true))
meets_a_number first last range = (
  λ meets. (max first range.first, omega arith, grind (arith, nat_tests, meets), grind (arith, nat_tests, meets)),
  λ number. let low = number.1 in let high = number.2 in let within = number.3 in grind (arith, nat_tests, low, high, within),
)

-- of the frames the first m in some range
abbrev pub first_of : ℕ → List Range → List Spanned → List (List ℕ)
first_of m ranges frames = map (λ frame. frame.bytes) (take m (filter (is_in_ranges ranges) frames))

first_of-skip : (m : ℕ) (ranges : List Range) (frame : Spanned) (frames : List Spanned) → is_in_ranges ranges frame ≡ false
    → first_of m ranges (frame ∷ frames) ≡ first_of m ranges frames
first_of-skip m ranges frame frames out = rw out refl

first_of-take : (m : ℕ) (ranges : List Range) (frame : Spanned) (frames : List Spanned) → is_in_ranges ranges frame ≡ true
    → first_of (suc m) ranges (frame ∷ frames) ≡ frame.bytes ∷ first_of m ranges frames
first_of-take m ranges frame frames within = rw within refl

-- the frames copied so far, and then the first of those that are left, are the first of all
pub record IsFoundSoFar (ranges : List Range) (frames rest : List Spanned) (copies : List (List ℕ)) : Type 0 where
  pub few : length copies ≤ 64
  pub found : copies ++ first_of (64 - length copies) ranges rest ≡ first_in ranges frames

module _ (ranges : List Range) (frames rest : List Spanned) (copies : List (List ℕ)) (so_far : IsFoundSoFar ranges frames rest copies) where
  module _ (frame : Spanned) (others : List Spanned) (here : rest ≡ frame ∷ others) where
    found_skipping : is_in_ranges ranges frame ≡ false → IsFoundSoFar ranges frames others copies
    found_skipping out = record {
      few = so_far.few;
      found =
          ap (λ (xs : List (List ℕ)). copies ++ xs)
          (sym (ap (first_of (64 - length copies) ranges) here ∙ first_of-skip (64 - length copies) ranges frame others out))
          ∙ so_far.found;
    }

    found_taking : is_in_ranges ranges frame ≡ true → length copies ≢ 64 → IsFoundSoFar ranges frames others (copies ++ frame.bytes ∷ [])
    found_taking within room =
        let longer : length (copies ++ frame.bytes ∷ []) ≡ length copies + 1 = length-append copies (frame.bytes ∷ []) in
        let less : 64 - length copies ≡ suc (64 - length (copies ++ frame.bytes ∷ [])) = omega (arith, longer, room, so_far.few) in
        record {
          few = omega (arith, longer, room, so_far.few);
          found =
              append_assoc copies (frame.bytes ∷ []) (first_of (64 - length (copies ++ frame.bytes ∷ [])) ranges others)
              ∙ ap (λ (xs : List (List ℕ)). copies ++ xs)
              (sym (ap (first_of (64 - length copies) ranges) here
              ∙ ap (λ (m : ℕ). first_of m ranges (frame ∷ others)) less
              ∙ first_of-take (64 - length (copies ++ frame.bytes ∷ [])) ranges frame others within))
              ∙ so_far.found;
        }

    -- the next frame is copied where one of its numbers is in some range
    pub found_more : length copies ≢ 64
        → IsFoundSoFar ranges frames others (cond (is_in_ranges ranges frame) (copies ++ frame.bytes ∷ []) copies)
    found_more room =
        elim (is_in_ranges ranges frame)
        as (λ b. is_in_ranges ranges frame ≡ b → IsFoundSoFar ranges frames others (cond b (copies ++ frame.bytes ∷ []) copies)) [
          | true ↦ λ within. found_taking within room
          | false ↦ λ out. found_skipping out
        ] refl
