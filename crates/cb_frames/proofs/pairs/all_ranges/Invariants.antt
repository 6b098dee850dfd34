use Rattle.std.proofs.Common.{◌≤◌, ◌+◌, ◌≡◌}
use Rattle.arrayvec.specs.ArrayVec.{array_vec_len}
use Rattle.cb_frames.specs.declared.frame.TheConstants.{LAST_NUMBER}
use Rattle.cb_frames.specs.Fault.{range_pairs}
use Rattle.cb_frames.proofs.PairLoop.{SoFar}
use Rattle.cb_frames.proofs.pairs.all_ranges.Given as goal

abbrev pub invariant-loop : goal.invariant-loop
invariant-loop l = record {
  room : array_vec_len l.ranges ≡ l.counter;
  below : l.least ≤ LAST_NUMBER + 2;
  read : SoFar range_pairs l.count 1 l.bytes l.ranges.items l.least l.counter l.rest;
}
