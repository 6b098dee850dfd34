use Rattle.std.proofs.Common.{◌≡◌, map, drop}
use Rattle.std.specs.List.{AllByRecursion}
use Rattle.cb_trace.specs.Text.{history_fields}
use Rattle.cb_trace.proofs.writing.share_group.Given as goal

abbrev pub invariant-loop-history : goal.invariant-loop-history
invariant-loop-history l = record {
  to : AllByRecursion (λ h. h.group ≡ l.group) (map history_fields l.histories) → AllByRecursion (λ h. h.group ≡ l.group) (map history_fields (drop l.history-index l.histories));
  from : AllByRecursion (λ h. h.group ≡ l.group) (map history_fields (drop l.history-index l.histories)) → AllByRecursion (λ h. h.group ≡ l.group) (map history_fields l.histories);
}
