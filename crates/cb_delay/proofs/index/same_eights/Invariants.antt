use Rattle.std.proofs.Common.{◌≡◌, ◌<◌, ◌≤◌, ◌-◌, ℕ, length}
use Rattle.cb_times.specs.Order.{field}
use Rattle.cb_delay.proofs.index.same_eights.Given as goal

abbrev pub decreases-loop-k : goal.decreases-loop-k
decreases-loop-k l = length l.now - l.k

-- the fields so far are the same
abbrev pub invariant-loop-k : goal.invariant-loop-k
invariant-loop-k l = record {
  from : l.first ≤ l.k;
  within : l.k ≤ length l.now;
  same : (j : ℕ) → l.first ≤ j → j < l.k → field l.before j ≡ field l.now j;
}
