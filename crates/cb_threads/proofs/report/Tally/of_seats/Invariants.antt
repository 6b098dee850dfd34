use Rattle.std.proofs.Common.{drop}
use Rattle.cb_threads.specs.Reports.{entries_in, no_tally}
use Rattle.cb_threads.proofs.Telling.{Goes, sums}
use Rattle.cb_threads.proofs.report.Tally.of_seats.Given as goal

-- with the seats to come the counts are those of all
abbrev pub invariant-loop-seat : goal.invariant-loop-seat
invariant-loop-seat g l = Goes (entries_in (drop l.seat-index l.seats)) (sums no_tally (entries_in l.seats)) l.tally
