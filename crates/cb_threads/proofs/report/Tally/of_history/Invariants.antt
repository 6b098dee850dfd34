use Rattle.std.proofs.Common.{map, drop}
use Rattle.cb_history.specs.Facts.{entry_fields}
use Rattle.cb_threads.specs.Reports.{no_tally}
use Rattle.cb_threads.proofs.Telling.{Goes, sums}
use Rattle.cb_threads.proofs.report.Tally.of_history.Given as goal

-- with the entries to come the counts are those of all
abbrev pub invariant-loop-entry : goal.invariant-loop-entry
invariant-loop-entry l = Goes (map entry_fields (drop l.entry-index l.entries)) (sums no_tally (map entry_fields l.entries)) l.tally
