use Rattle.cb_varint.proofs.Turns.{SoFar}
use Rattle.cb_varint.proofs.number.first_number.Given as goal

abbrev pub invariant-loop-place : goal.invariant-loop-place
invariant-loop-place l = SoFar l.bytes l.value l.place
