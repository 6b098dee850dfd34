use Rattle.std.proofs.Common.{◌≤◌, length}
use Rattle.cb_stability.proofs.Placing.{begun}
use Rattle.cb_stability.proofs.relays.count_begun.Given as goal

abbrev pub invariant-loop-count : goal.invariant-loop-count
invariant-loop-count l = (begun l.number l.frames.items ≤ l.count) × (l.count ≤ length l.frames.items)

abbrev pub decreases-loop-count : goal.decreases-loop-count
decreases-loop-count l = l.count
