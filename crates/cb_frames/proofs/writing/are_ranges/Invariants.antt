use Rattle.std.proofs.Common.{◌≤◌, ◌+◌}
use Rattle.cb_frames.specs.declared.frame.TheConstants.{LAST_NUMBER}
use Rattle.cb_frames.proofs.PairsWritten.{range_walk, Checked}
use Rattle.cb_frames.proofs.writing.are_ranges.Given as goal

abbrev pub invariant-loop-range : goal.invariant-loop-range
invariant-loop-range l = record {
  below : l.least ≤ LAST_NUMBER + 2;
  checked : Checked range_walk 1 l.ranges l.least l.range-index;
}
