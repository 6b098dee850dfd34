use Rattle.std.proofs.Common.{ℕ, ◌<◌, map}
use Rattle.cb_trace.specs.Text.{history_fields}
use Rattle.cb_trace.specs.Auditing.{entries_at}
use Rattle.cb_trace.specs.Search.{HasLeft}
use Rattle.cb_trace.proofs.joining.first_left.Given as goal

-- no member so far has an entry left
abbrev pub invariant-loop-k : goal.invariant-loop-k
invariant-loop-k l = (i : ℕ) → i < l.k → ¬ HasLeft (entries_at (map history_fields l.histories)) l.gone i
