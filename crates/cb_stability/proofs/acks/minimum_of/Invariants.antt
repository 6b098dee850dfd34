use Rattle.cb_stability.proofs.Minima.{IsMinimumSoFar}
use Rattle.cb_stability.proofs.acks.minimum_of.Given as goal

abbrev pub invariant-loop-k : goal.invariant-loop-k
invariant-loop-k l = IsMinimumSoFar l.rows l.sender l.k l.minimum
