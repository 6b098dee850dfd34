use Rattle.std.proofs.Common.{◌≡◌, ℕ, ◌<◌, map, length, get_or}
use Rattle.cb_history.specs.View.{count}
use Rattle.cb_reference.specs.Messages.{carried_of}
use Rattle.cb_reference.proofs.view.counts.Given as goal

-- the fields so far are counted
abbrev pub invariant-loop-k : goal.invariant-loop-k
invariant-loop-k l = record {
  size : length l.time ≡ l.size;
  counted : (j : ℕ) → j < l.k → get_or l.time j 0 ≡ count (map carried_of l.seen) j;
}
