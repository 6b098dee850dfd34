use Rattle.std.proofs.Common.{ℕ, ◌<◌, map}
use Rattle.cb_history.specs.Legal.{IsLegal}
use Rattle.cb_trace.specs.Text.{history_fields}
use Rattle.cb_trace.specs.Auditing.{seat_of, entries_at}
use Rattle.cb_trace.proofs.auditing.first_wrong_answer.Given as goal

-- so many histories are legal
abbrev pub invariant-loop-history : goal.invariant-loop-history
invariant-loop-history l = (i : ℕ) → i < l.history-index → IsLegal (seat_of l.fn.group i) (entries_at (map history_fields l.histories) i)
