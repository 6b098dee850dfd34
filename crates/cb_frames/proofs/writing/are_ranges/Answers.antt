use Rattle.std.proofs.Common.{refl, arith}
use Rattle.cb_frames.proofs.PairsWritten.{ranges_checked, range_here}
use Rattle.cb_frames.proofs.writing.are_ranges.Goals as goal
use Rattle.cb_frames.proofs.writing.are_ranges.Goals.{then-from-least-via-then-from-least, then-from-least-via-else-from-least+then-last-first}

pub returns-then-from-least : goal.returns-then-from-least
returns-then-from-least c =
    let rs = c.args.ranges.now in
    let i = c.loop-range.range-index in (
      λ t. absurd cc,
      λ a.
          let here = range_here rs c.loop-range.least i (record { first = 0; last = 0 }) c.loop-range.invariant.checked c.loop-range-test.true a in
          elim c.then-from-least.branch [
            | then-from-least-via-then-from-least w ↦ absurd (omega (arith, w.if-from-least, here.0, c.from.ensures))
            | then-from-least-via-else-from-least+then-last-first w ↦ absurd (omega (arith, w.if-last-first, here.1))
          ],
    )

pub returns : goal.returns
returns c = (λ t. ranges_checked c.args.ranges.now c.loop-range.least c.loop-range.range-index c.loop-range.invariant.checked c.loop-range-test.false, λ a. refl)
