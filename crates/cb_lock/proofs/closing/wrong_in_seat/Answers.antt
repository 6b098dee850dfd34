use Rattle.std.proofs.Common.{◌+◌, false, map, drop, ap}
use Rattle.std.proofs.lemmas.Option.{slice_get_within}
use Rattle.cb_history.specs.Facts.{entry_fields}
use Rattle.cb_lock.specs.Receipts.{receipt_fields}
use Rattle.cb_lock.proofs.Checking.{item_at, seat_step, seat_wrong}
use Rattle.cb_lock.proofs.closing.wrong_in_seat.Goals as goal

pub returns-in_default : goal.returns-in_default
returns-in_default c =
    let i = c.loop-receipt.receipt-index in
    let all = c.args.receipts.now in
    let at = ap (map receipt_fields) (item_at all i c.receipt-item.result c.loop-receipt-test.true c.receipt-item.is) in
    λ before m.
    seat_wrong (map entry_fields c.args.entries.now) before (map receipt_fields all) (map receipt_fields (drop i all)) (receipt_fields c.receipt-item.result) (map receipt_fields (drop (i + 1) all)) c.loop-receipt.seen c.loop-receipt.last at
    (c.loop-receipt.invariant before m) c.in_default.ensures.right

pub bounds-seen-index : goal.bounds-seen-index
bounds-seen-index c = slice_get_within c.loop-receipt.seen c.in-Some.index false c.in-Some.ensures.index.0

pub loop-receipt-preserved : goal.loop-receipt-preserved
loop-receipt-preserved c =
    let i = c.loop-receipt.receipt-index in
    let all = c.args.receipts.now in
    let at = ap (map receipt_fields) (item_at all i c.receipt-item.result c.loop-receipt-test.true c.receipt-item.is) in
    λ before m.
    seat_step (map entry_fields c.args.entries.now) before (map receipt_fields all) (map receipt_fields (drop i all)) (receipt_fields c.receipt-item.result) (map receipt_fields (drop (i + 1) all)) c.loop-receipt.seen c.loop-receipt.last c.in-Some.index at
    (c.loop-receipt.invariant before m) c.in-Some.ensures.right c.in-Some.ensures.index.0 c.in-Some.ensures.index.1
