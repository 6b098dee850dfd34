use Rattle.std.proofs.Common.{◌∙◌, Option, ap, sym}
use Rattle.cb_member.specs.declared.readings.Awaited.{Awaited}
use Rattle.cb_member.specs.declared.readings.Delayed.{Delayed}
use Rattle.cb_member.proofs.Reading.{time_at, time_long}
use Rattle.cb_member.proofs.Awaiting.{first_waits, none_is_told, none_of_own}
use Rattle.cb_member.proofs.state.State.waits_for.Goals as goal

pub returns-then-i-me : goal.returns-then-i-me
returns-then-i-me c facts are keeps =
    let seat = c.args.self.now.seat in
    sym (none_is_told seat facts are c.args.i (none_of_own seat facts are c.args.i (c.if-i-me.true ∙ c.me.ensures.me)))

pub returns : goal.returns
returns c facts are keeps =
    let state = c.args.self.now in
    let d = state.delivery in
    let message = c.in-Some.message.now in
    first_waits state.seat facts are c.args.i d.queue keeps.delivered.waits.queue d.time message _ (time_long state.seat facts d keeps.delivered)
    (λ k lt. time_at state.seat facts d k keeps.delivered lt) c.in-Some.ensures.first
    (ap (λ (a : Option Awaited). let x : Delayed = record { name = message.name; awaits = a } in x) c.first_beyond.ensures)
