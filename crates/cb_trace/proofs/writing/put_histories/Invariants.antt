use Rattle.std.proofs.Common.{◌≡◌, ◌++◌, map, drop}
use Rattle.std.specs.List.{flat_map}
use Rattle.cb_trace.specs.Text.{history_fields, history_lines}
use Rattle.cb_lines.specs.Text.{text_of_lines}
use Rattle.cb_trace.proofs.writing.put_histories.Given as goal

abbrev pub invariant-loop-history : goal.invariant-loop-history
invariant-loop-history l =
    l.out.items ++ text_of_lines (flat_map history_lines (map history_fields (drop l.history-index l.histories)))
    ≡ l.fn.out.items ++ text_of_lines (flat_map history_lines (map history_fields l.histories))
