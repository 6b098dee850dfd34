use Rattle.std.proofs.Common.{◌≡◌, map, option_map, ◌∙◌, sym, ap, rules}
use Rattle.cb_history.specs.Facts.{entry_fields}
use Rattle.cb_history.specs.Legal.{ToTick}
use Rattle.cb_history.specs.State.{HasTicked, entry_by}
use Rattle.cb_lock.specs.Receipts.{receipt_fields}
use Rattle.cb_lock.specs.Calls.{and_receipt}
use Rattle.cb_lock.proofs.Entering.{seat_after}
use Rattle.cb_lock.proofs.Ticking.{reported_tick}
use Rattle.cb_lock.proofs.held.Held.tick.Goals as goal

pub returns-clause-entry : goal.returns-clause-entry
returns-clause-entry g c =
    let m = c.args.self.now in
    let ticked = c.in_ok-ticked.ticked in
    let reported : HasTicked m c.tick_noted.new.self ticked = search rules in
    reported_tick m ticked reported.answer

pub returns-clause-receipt : goal.returns-clause-receipt
returns-clause-receipt g c =
    let m = c.args.self.now in
    let ticked = c.in_ok-ticked.ticked in
    let reported : HasTicked m c.tick_noted.new.self ticked = search rules in
    let tells = reported_tick m ticked reported.answer in
    let by : entry_by m ToTick ≡ option_map entry_fields c.in_ok-ticked.noted = search rules in
    seat_after c.args.seat.now m c.tick_noted.new.self ToTick (option_map entry_fields c.in_ok-ticked.noted) c.enter.new.share.parts (map receipt_fields c.enter.new.receipts.items) by reported.after (search rules) (search rules)
    ∙ ap (and_receipt c.args.seat.now m) (sym by ∙ tells)
