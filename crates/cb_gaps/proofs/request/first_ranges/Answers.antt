use Rattle.std.proofs.Common.{◌≡◌, false, List, [], ◌∷◌, ◌==◌, length, take, ap, sym, ◌∙◌, Some}
use Rattle.std.proofs.lemmas.List.{take_min}
use Rattle.cb_frames.specs.declared.frame.Range.{Range}
use Rattle.cb_gaps.specs.Request.{first_ranges}
use Rattle.cb_gaps.proofs.request.first_ranges.Goals as goal

some_are_taken : (ranges first : List Range) → (length ranges == 0) ≡ false → first ≡ take 32 ranges → Some first ≡ first_ranges ranges
some_are_taken [] first some taken = cc
some_are_taken (r ∷ ranges) first some taken = ap Some taken

pub returns-clause-first : goal.returns-clause-first
returns-clause-first c =
    some_are_taken c.args.ranges.now c.in_ok-from_slice.field-0.items (sym c.is_empty.ensures ∙ c.if-is_empty.false)
    (c.in_ok-from_slice.ensures.items ∙ ap (λ n. take n c.args.ranges.now) c.min.ensures ∙ take_min 32 c.args.ranges.now)
