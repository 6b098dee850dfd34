use Rattle.cb_handle.specs.Entries.{range_row}
use Rattle.cb_handle.proofs.Placing.{RowsShown}
use Rattle.cb_handle.proofs.reading.show_ranges.Given as goal

-- so many ranges are shown
abbrev pub invariant-loop-k : goal.invariant-loop-k
invariant-loop-k l = RowsShown range_row l.ranges l.initial.to l.to l.k
