use Rattle.std.proofs.Common.{List, subst}
use Rattle.cb_lock.specs.Receipts.{ReceiptFields}
use Rattle.cb_threads.specs.Reports.{entries_in, entries_reported, no_tally, Adds}
use Rattle.cb_threads.proofs.Telling.{sums, item_at, seats_go_on}
use Rattle.cb_threads.proofs.report.Tally.of_seats.Goals as goal

pub loop-seat-preserved : goal.loop-seat-preserved
loop-seat-preserved g c =
    let at = item_at c.args.seats.now c.loop-seat.seat-index c.seat-item.result c.loop-seat-test.true c.seat-item.is in
    seats_go_on c.args.seats.now c.loop-seat.seat-index c.seat-item.result (sums no_tally (entries_in c.args.seats.now)) c.loop-seat.tally c.and_all-tally.result at c.loop-seat.invariant
    (subst (λ (rs : List ReceiptFields). Adds c.loop-seat.tally (entries_reported rs) c.and_all-tally.result) c.receipts.ensures.receipts c.and_all-tally.ensures)
