use Rattle.cb_stability.proofs.Passed.{IsPassedSoFar}
use Rattle.cb_stability.proofs.relays.copies_behind.Given as goal

abbrev pub invariant-loop-frame : goal.invariant-loop-frame
invariant-loop-frame l = IsPassedSoFar l.delivered l.count l.ranges l.frames.items l.frame-iterator l.passed l.copies.items
