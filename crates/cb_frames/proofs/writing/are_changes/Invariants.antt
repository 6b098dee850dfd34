use Rattle.std.proofs.Common.{◌≤◌}
use Rattle.cb_frames.proofs.PairsWritten.{change_walk, Checked}
use Rattle.cb_frames.proofs.writing.are_changes.Given as goal

abbrev pub invariant-loop-change : goal.invariant-loop-change
invariant-loop-change l = record {
  below : l.least ≤ 64;
  checked : Checked (change_walk l.own) 0 l.changes l.least l.change-index;
}
