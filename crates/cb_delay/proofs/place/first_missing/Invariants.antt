use Rattle.std.proofs.Common.{◌≢◌, ◌<◌, ◌≤◌, ℕ}
use Rattle.cb_times.specs.Order.{field}
use Rattle.cb_delay.proofs.place.first_missing.Given as goal

-- of the members so far nothing is missing
abbrev pub invariant-loop-k : goal.invariant-loop-k
invariant-loop-k l = (j : ℕ) → j < l.k → j ≢ l.sender → field l.time j ≤ field l.now j
