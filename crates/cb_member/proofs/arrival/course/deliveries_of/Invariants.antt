use Rattle.cb_member.proofs.Bursting.{SoFar}
use Rattle.cb_member.proofs.arrival.course.deliveries_of.Given as goal

-- the deliveries so far, and those still to be made
abbrev pub invariant-loop-i : goal.invariant-loop-i
invariant-loop-i l = record { so_far : SoFar l.time l.burst l.i l.deliveries.items }
