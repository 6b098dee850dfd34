use Rattle.std.proofs.Common.{◌≡◌, ◌+◌, ◌<◌, arith, ap, inl, inr}
use Rattle.cb_delay.specs.declared.message.Message.{Message}
use Rattle.cb_delay.proofs.Room.{count_of-none}
use Rattle.tests_base.proofs.Tracking.{one_of}
use Rattle.tests_base.proofs.index.hold_first.Goals as goal

pub hold-requires-clause-room : goal.hold-requires-clause-room
hold-requires-clause-room c =
    let none = count_of-none c.args.queue.now c.args.message.name.sender c.len-before.ensures.queue
    (λ held is of. omega (arith, c.requires.first held is, of)) in
    omega (arith, none, c.requires.window)

pub returns-clause-held : goal.returns-clause-held
returns-clause-held c held is =
    elim (one_of c.args.queue.now c.hold.new.self c.args.message c.hold.ensures.held.now_held held is)
    as (λ _. held.name.sender < c.args.message.name.sender + 1) [
      | inl same ↦ let sender : held.name.sender ≡ c.args.message.name.sender = ap (λ (m : Message). m.name.sender) same in omega (arith, sender)
      | inr before ↦ omega (arith, c.requires.first held before)
    ]
