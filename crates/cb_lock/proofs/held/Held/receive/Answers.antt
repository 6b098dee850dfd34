use Rattle.std.proofs.Common.{◌≡◌, map, option_map, ◌∙◌, sym, ap, rules}
use Rattle.cb_history.specs.Facts.{entry_fields}
use Rattle.cb_history.specs.Legal.{ToTake}
use Rattle.cb_history.specs.State.{entry_by}
use Rattle.cb_lock.specs.Receipts.{receipt_fields}
use Rattle.cb_lock.specs.Calls.{and_receipt}
use Rattle.cb_lock.proofs.Entering.{seat_after}
use Rattle.cb_member.specs.Received.{HasTakenToSend}
use Rattle.cb_lock.proofs.held.Held.receive.Goals as goal

pub returns-clause-receipt : goal.returns-clause-receipt
returns-clause-receipt g c =
    let m = c.args.self.now in
    let reported : HasTakenToSend m c.receive_noted.new.self c.args.bytes c.in_ok-out.out.items = search rules in
    let by : entry_by m (ToTake c.args.bytes) ≡ option_map entry_fields c.in_ok-out.noted = search rules in
    seat_after c.args.seat.now m c.receive_noted.new.self (ToTake c.args.bytes) (option_map entry_fields c.in_ok-out.noted) c.enter.new.share.parts (map receipt_fields c.enter.new.receipts.items) by reported.after (search rules) (search rules)
    ∙ ap (and_receipt c.args.seat.now m) (sym by)
