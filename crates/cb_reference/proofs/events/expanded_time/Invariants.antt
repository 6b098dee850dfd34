use Rattle.std.proofs.Common.{◌≡◌, ℕ, ◌<◌, length, get_or}
use Rattle.cb_diffs.specs.Expansion.{expanded_field}
use Rattle.cb_reference.proofs.events.expanded_time.Given as goal

-- the fields so far are expanded
abbrev pub invariant-loop-k : goal.invariant-loop-k
invariant-loop-k l = record {
  size : length l.time ≡ l.size;
  expanded : (j : ℕ) → j < l.k → get_or l.time j 0 ≡ expanded_field l.casts l.sender l.number j;
}
