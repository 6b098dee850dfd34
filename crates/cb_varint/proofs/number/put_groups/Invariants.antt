use Rattle.cb_varint.proofs.Turns.{Written}
use Rattle.cb_varint.proofs.number.put_groups.Given as goal

abbrev pub invariant-loop-rest : goal.invariant-loop-rest
invariant-loop-rest l = Written l.text l.v l.count l.rest

abbrev pub decreases-loop-rest : goal.decreases-loop-rest
decreases-loop-rest l = l.rest
