use Rattle.std.proofs.Common.{map, refl}
use Rattle.cb_history.specs.Facts.{entry_fields}
use Rattle.cb_history.specs.Legal.{ToTake}
use Rattle.cb_history.specs.State.{MemberState}
use Rattle.cb_reference.proofs.Calls.{called}
use Rattle.cb_reference.proofs.member.ReferenceMember.arrive_noted.Goals as goal

pub invariant_of-self-2 : goal.invariant_of-self-2
invariant_of-self-2 c =
    let s = c.self.inside in
    let m : MemberState = record { seat = s.seat; limit = s.limit; entries = map entry_fields s.entries.items } in
    called m c.args.self.now s.entries.items c.enter_noted.new.entries.items c.in_ok-accepting.accepting.entry (ToTake c.args.bytes.now) c.self.view_is refl c.self.invariant c.answer_arrival.ensures.bytes
    c.in_ok-accepting.ensures.accepted.adds c.in_ok-accepting.ensures.accepted.room
    c.in_ok-noted.ensures.added (c.in_ok-noted.ensures.room s.limit)
