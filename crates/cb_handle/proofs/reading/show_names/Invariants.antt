use Rattle.cb_handle.specs.Entries.{name_row}
use Rattle.cb_handle.proofs.Placing.{RowsShown}
use Rattle.cb_handle.proofs.reading.show_names.Given as goal

-- so many names are shown
abbrev pub invariant-loop-k : goal.invariant-loop-k
invariant-loop-k l = RowsShown name_row l.names l.initial.to l.to l.k
