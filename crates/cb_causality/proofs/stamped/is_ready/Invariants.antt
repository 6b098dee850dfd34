use Rattle.std.proofs.Common.{ℕ, ◌<◌}
use Rattle.cb_times.specs.Order.{field}
use Rattle.cb_causality.specs.StampedMachine.{counts_of}
use Rattle.cb_causality.proofs.Ready.{IsFieldReady}
use Rattle.cb_causality.proofs.stamped.is_ready.Given as goal

-- the fields so far are ready
abbrev pub invariant-loop-k : goal.invariant-loop-k
invariant-loop-k l = (k : ℕ) → k < l.k → IsFieldReady l.sender (field l.time) (counts_of l.events) k
