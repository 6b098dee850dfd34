use Rattle.std.proofs.Common.{◌≡◌, ◌++◌, map, drop}
use Rattle.cb_history.specs.Facts.{entry_fields}
use Rattle.cb_lines.specs.Text.{entry_line, text_of_lines}
use Rattle.confer_node.proofs.record.put_entries.Given as goal

abbrev pub invariant-loop-entry : goal.invariant-loop-entry
invariant-loop-entry l =
    l.out.items ++ text_of_lines (map entry_line (map entry_fields (drop l.entry-index l.entries)))
    ≡ l.fn.out.items ++ text_of_lines (map entry_line (map entry_fields l.entries))
