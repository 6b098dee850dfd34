use Rattle.std.proofs.Common.{◌≡◌, ◌≤◌, max, drop, map}
use Rattle.cb_trace.specs.Text.{history_fields}
use Rattle.cb_trace.specs.Auditing.{longest}
use Rattle.cb_trace.proofs.auditing.longest_of.Given as goal

-- the longest so far, and the rest
abbrev pub invariant-loop-history : goal.invariant-loop-history
invariant-loop-history l = record {
  one : 1 ≤ l.most;
  rest : max l.most (longest (map history_fields (drop l.history-index l.histories))) ≡ longest (map history_fields l.histories);
}
