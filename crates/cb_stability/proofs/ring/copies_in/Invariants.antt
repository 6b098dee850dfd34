use Rattle.cb_stability.proofs.Found.{IsFoundSoFar}
use Rattle.cb_stability.proofs.ring.copies_in.Given as goal

abbrev pub invariant-loop-frame : goal.invariant-loop-frame
invariant-loop-frame l = IsFoundSoFar l.ranges l.frames.items l.frame-iterator l.copies.items
