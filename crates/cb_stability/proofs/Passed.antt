-- The frames that are handed on and found in some ranges, as far as the ring has been looked through.
use Rattle.std.proofs.Common.{◌≡◌, ◌≢◌, ℕ, suc, ◌+◌, ◌-◌, ◌<◌, ◌≤◌, Bool, true, cond, List, [], ◌∷◌, ◌++◌, length, drop, sym, ◌∙◌, ap, subst, arith, refl}
use Rattle.std.specs.Prelude.{filter}
use Rattle.cb_frames.specs.declared.frame.Range.{Range}
use Rattle.cb_stability.specs.declared.ring.Spanned.{Spanned}
use Rattle.cb_stability.specs.declared.relays.Delivered.{Delivered}
use Rattle.cb_stability.specs.Sent.{is_in_ranges}
use Rattle.cb_stability.specs.Relays.{is_handed_on}
use Rattle.cb_stability.proofs.Found.{IsFoundSoFar, found_more}

abbrev pub is_between : Delivered → Spanned → Bool
is_between delivered = is_handed_on delivered.stable delivered.last

abbrev pub between : Delivered → List Spanned → List Spanned
between delivered frames = filter (is_between delivered) frames

-- no more frames were passed than are to be, and behind as many as are still to be passed the rest has what is left to find
pub record IsPassedSoFar (delivered : Delivered) (count : ℕ) (ranges : List Range) (frames rest : List Spanned) (passed : ℕ) (copies : List (List ℕ)) : Type 0 where
  pub at_most : passed ≤ count
  pub found : IsFoundSoFar ranges (drop count (between delivered frames)) (drop (count - passed) (between delivered rest)) copies

module _ (delivered : Delivered) (count : ℕ) (ranges : List Range) (frames rest : List Spanned) (passed : ℕ) (copies : List (List ℕ)) where
  abbrev SoFar : Type 0
  SoFar = IsPassedSoFar delivered count ranges frames rest passed copies

  abbrev behind : ℕ → List Spanned → List Spanned
  behind n xs = drop n (between delivered xs)

  module _ (so_far : SoFar) (frame : Spanned) (others : List Spanned) (here : rest ≡ frame ∷ others) (within : is_between delivered frame ≡ true) where
    next : between delivered (frame ∷ others) ≡ frame ∷ between delivered others
    next = rw within refl

    pub passed_more : passed < count → IsPassedSoFar delivered count ranges frames others (passed + 1) copies
    passed_more more =
        let one : count - passed ≡ suc (count - (passed + 1)) = omega (arith, more) in
        record {
          at_most = omega (arith, more);
          found =
              subst (λ (left : List Spanned). IsFoundSoFar ranges (behind count frames) left copies)
              (ap (behind (count - passed)) here ∙ ap (drop (count - passed)) next
              ∙ ap (λ (n : ℕ). drop n (frame ∷ between delivered others)) one)
              so_far.found;
        }

    pub taken_more : count ≤ passed → length copies ≢ 64
        → IsPassedSoFar delivered count ranges frames others passed (cond (is_in_ranges ranges frame) (copies ++ frame.bytes ∷ []) copies)
    taken_more all room =
        let none : count - passed ≡ 0 = omega (arith, all) in
        let left : behind (count - passed) rest ≡ frame ∷ behind (count - passed) others =
        ap (behind (count - passed)) here ∙ ap (drop (count - passed)) next
        ∙ ap (λ (n : ℕ). drop n (frame ∷ between delivered others)) none
        ∙ ap (λ (n : ℕ). frame ∷ drop n (between delivered others)) (sym none) in
        record {
          at_most = so_far.at_most;
          found =
              found_more ranges (behind count frames) (behind (count - passed) rest) copies so_far.found
              frame (behind (count - passed) others) left room;
        }
