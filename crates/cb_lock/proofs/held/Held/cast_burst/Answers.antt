use Rattle.std.proofs.Common.{◌≡◌, Some, map, ◌∙◌, sym, ap, subst, rules}
use Rattle.cb_history.specs.Facts.{entry_fields}
use Rattle.cb_history.specs.Legal.{ToCast}
use Rattle.cb_history.specs.Load.{many_of}
use Rattle.cb_history.specs.State.{MemberState, HasCastBurst, entry_by}
use Rattle.cb_lock.specs.Receipts.{receipt_fields}
use Rattle.cb_lock.specs.Calls.{and_receipt, reported_by_burst}
use Rattle.cb_lock.proofs.Entering.{seat_after}
use Rattle.cb_lock.proofs.held.Held.cast_burst.Goals as goal

pub returns-clause-done : goal.returns-clause-done
returns-clause-done g c =
    let is : c.args.self.now ≡ c.self.inside.member = search rules in
    subst (λ (m : MemberState). HasCastBurst m c.cast_burst_noted.new.self (many_of c.args.payloads.now) c.in_ok-done.done) (sym is) c.in_ok-done.ensures.done

pub returns-clause-receipt : goal.returns-clause-receipt
returns-clause-receipt g c =
    let m = c.args.self.now in
    let done = c.in_ok-done.done in
    let load = many_of c.args.payloads.now in
    let reported = returns-clause-done g c in
    let by : entry_by m (ToCast load) ≡ Some (entry_fields c.in_ok-done.entry) = search rules in
    let tells : entry_by m (ToCast load) ≡ reported_by_burst done = search rules in
    seat_after c.args.seat.now m c.cast_burst_noted.new.self (ToCast load) (Some (entry_fields c.in_ok-done.entry)) c.enter.new.share.parts (map receipt_fields c.enter.new.receipts.items) by reported.after (search rules) (search rules)
    ∙ ap (and_receipt c.args.seat.now m) (sym by ∙ tells)
