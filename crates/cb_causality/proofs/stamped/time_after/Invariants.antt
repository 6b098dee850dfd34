use Rattle.std.proofs.Common.{◌≡◌, ℕ, ◌<◌, length}
use Rattle.cb_times.specs.Order.{field}
use Rattle.cb_causality.specs.StampedMachine.{counts_of}
use Rattle.cb_causality.proofs.stamped.time_after.Given as goal

-- a time of the group, whose fields so far are counted
abbrev pub invariant-loop-k : goal.invariant-loop-k
invariant-loop-k l = record {
  fields : length l.time ≡ l.size;
  counts : (k : ℕ) → k < l.k → field l.time k ≡ counts_of l.events k;
}
