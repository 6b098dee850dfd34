use Rattle.std.proofs.Common.{◌-◌, ℕ, subst, arith}
use Rattle.std.proofs.lemmas.List.{get_or_default}
use Rattle.cb_varint.specs.Spelling.{Spells}
use Rattle.cb_frames.proofs.PairsWritten.{range_walk, Appends, range_here, row_of_ranges, writing_goes_on, ranges_written}
use Rattle.cb_frames.proofs.writing.put_ranges.Goals as goal

pub overflow_sub-from : goal.overflow_sub-from
overflow_sub-from c =
    let here = range_here c.args.ranges.now c.loop-range.least c.loop-range.range-index (record { first = 0; last = 0 }) c.loop-range.invariant.checked c.loop-range-test.true c.requires in
    omega (arith, here.0, c.from.ensures)

pub overflow_sub-range : goal.overflow_sub-range
overflow_sub-range c =
    (range_here c.args.ranges.now c.loop-range.least c.loop-range.range-index (record { first = 0; last = 0 }) c.loop-range.invariant.checked c.loop-range-test.true c.requires).1

pub loop-range-preserved : goal.loop-range-preserved
loop-range-preserved c =
    let rs = c.args.ranges.now in
    let i = c.loop-range.range-index in
    let first = subst (λ (n : ℕ). Appends (λ text. Spells text (n - c.loop-range.least)) c.loop-range.out.items c.put.new.out.items) c.from.ensures c.in_ok-put.ensures.text in
    rw c.from-least.ensures (writing_goes_on range_walk 1 rs c.args.out.now.items c.loop-range.out.items c.put.new.out.items c.put-in-loop-range.new.out.items c.loop-range.least i _ c.loop-range.invariant c.loop-range-test.true (get_or_default rs i _ _ c.loop-range-test.true) (row_of_ranges 1 rs c.requires) first c.in_ok-put-2.ensures.text)

pub returns : goal.returns
returns c = ranges_written c.args.ranges.now c.args.out.now.items c.loop-range.out.items c.loop-range.least c.loop-range.range-index c.loop-range.invariant c.loop-range-test.false
