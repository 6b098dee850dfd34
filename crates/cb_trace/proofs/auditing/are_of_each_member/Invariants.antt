use Rattle.std.proofs.Common.{◌≡◌, ℕ, ◌<◌, Some, map}
use Rattle.std.specs.Prelude.{slice_get}
use Rattle.cb_trace.specs.Text.{HistoryFields, history_fields}
use Rattle.cb_trace.proofs.auditing.are_of_each_member.Given as goal

-- so many are those of the first members
abbrev pub invariant-loop-k : goal.invariant-loop-k
invariant-loop-k l = (i : ℕ) (h : HistoryFields) → i < l.k → slice_get (map history_fields l.histories) i ≡ Some h → (h.group ≡ l.group) × (h.me ≡ i)
