use Rattle.std.proofs.Common.{◌≢◌, ◌<◌, ◌≤◌, ◌-◌, ℕ, length}
use Rattle.cb_times.specs.Order.{field}
use Rattle.cb_delay.proofs.place.before_missing.Given as goal

abbrev pub decreases-loop-k : goal.decreases-loop-k
decreases-loop-k l = length l.counts - l.k

-- of the members so far nothing is missing
abbrev pub invariant-loop-k : goal.invariant-loop-k
invariant-loop-k l = record {
  within : l.k ≤ length l.counts;
  none : (j : ℕ) → j < l.k → j ≢ l.sender → field l.stamps j ≤ field l.counts j;
}
