use Rattle.std.proofs.Common.{◌+◌, List, None, Some, map, drop, subst}
use Rattle.std.proofs.lemmas.List.{drop_all}
use Rattle.cb_history.specs.Facts.{entry_fields}
use Rattle.cb_lock.specs.Receipts.{ReceiptFields, SeatState}
use Rattle.cb_lock.specs.Seen.{ChecksSeat}
use Rattle.cb_lock.proofs.Checking.{SeatsGoOn, item_at, seats_step, seats_wrong, seats_end_right}
use Rattle.cb_lock.proofs.closing.wrong_in_seats.Goals as goal

pub returns-in-Some : goal.returns-in-Some
returns-in-Some g c =
    let entries = map entry_fields c.args.entries.now in
    let at = item_at c.args.seats.now c.loop-seat.seat-index c.seat-item.result c.loop-seat-test.true c.seat-item.is in
    seats_wrong entries c.args.seats.now (drop c.loop-seat.seat-index c.args.seats.now) c.seat-item.result (drop (c.loop-seat.seat-index + 1) c.args.seats.now) c.loop-seat.seen c.wrong_in_seat.new.seen c.in-Some.place at c.loop-seat.invariant
    (λ now m. subst (λ (rs : List ReceiptFields). ChecksSeat entries now rs c.wrong_in_seat.new.seen (Some c.in-Some.place)) c.receipts.ensures.receipts (c.in-Some.ensures now m))

pub loop-seat-preserved : goal.loop-seat-preserved
loop-seat-preserved g c =
    let entries = map entry_fields c.args.entries.now in
    let at = item_at c.args.seats.now c.loop-seat.seat-index c.seat-item.result c.loop-seat-test.true c.seat-item.is in
    seats_step entries c.args.seats.now (drop c.loop-seat.seat-index c.args.seats.now) c.seat-item.result (drop (c.loop-seat.seat-index + 1) c.args.seats.now) c.loop-seat.seen c.wrong_in_seat.new.seen at c.loop-seat.invariant
    (λ now m. subst (λ (rs : List ReceiptFields). ChecksSeat entries now rs c.wrong_in_seat.new.seen None) c.receipts.ensures.receipts (c.in_default.ensures now m))

pub returns : goal.returns
returns g c =
    let entries = map entry_fields c.args.entries.now in
    let all = c.args.seats.now in
    seats_end_right entries all c.loop-seat.seen (subst (λ (rest : List SeatState). SeatsGoOn entries all rest c.loop-seat.seen) (drop_all c.loop-seat.seat-index all c.loop-seat-test.false) c.loop-seat.invariant)
