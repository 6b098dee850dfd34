use Rattle.std.proofs.Common.{map, drop}
use Rattle.cb_lock.specs.Receipts.{receipt_fields}
use Rattle.cb_threads.specs.Reports.{entries_reported}
use Rattle.cb_threads.proofs.Telling.{Goes, sums}
use Rattle.cb_threads.proofs.report.Tally.and_all.Given as goal

-- with the receipts to come the counts are those of all
abbrev pub invariant-loop-receipt : goal.invariant-loop-receipt
invariant-loop-receipt l = Goes (entries_reported (map receipt_fields (drop l.receipt-index l.receipts))) (sums l.fn.self (entries_reported (map receipt_fields l.receipts))) l.tally
