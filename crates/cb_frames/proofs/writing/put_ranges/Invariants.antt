use Rattle.cb_frames.proofs.PairsWritten.{range_walk, Written}
use Rattle.cb_frames.proofs.writing.put_ranges.Given as goal

abbrev pub invariant-loop-range : goal.invariant-loop-range
invariant-loop-range l = Written range_walk 1 l.ranges l.fn.out.items l.out.items l.least l.range-index
