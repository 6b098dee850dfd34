use Rattle.std.proofs.Common.{◌≡◌, ◌<◌, ◌≤◌, ℕ, max}
use Rattle.cb_times.specs.Order.{field}
use Rattle.cb_times.proofs.time.raise_fields.Given as goal

-- the fields so far are raised, and those to come are as they were
abbrev pub invariant-loop-k : goal.invariant-loop-k
invariant-loop-k l =
    record {
      raised : (k : ℕ) → k < l.k → field l.ours k ≡ max (field l.initial.ours k) (field l.theirs k);
      kept : (k : ℕ) → l.k ≤ k → field l.ours k ≡ field l.initial.ours k;
    }
