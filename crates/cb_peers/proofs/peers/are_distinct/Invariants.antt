use Rattle.std.proofs.Common.{length, ◌↔◌}
use Rattle.cb_peers.specs.Placing.{AreDistinct}
use Rattle.cb_peers.proofs.peers.are_distinct.Given as goal

-- no address so far stands again behind itself
abbrev pub invariant-loop-first : goal.invariant-loop-first
invariant-loop-first l = AreDistinct l.rest ↔ AreDistinct l.addresses

abbrev pub decreases-loop-first : goal.decreases-loop-first
decreases-loop-first l = length l.rest
