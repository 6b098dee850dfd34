use Rattle.std.proofs.Common.{ℕ, ◌<◌, List, Option, sym, subst, refl, rules, tests}
use Rattle.std.specs.Prelude.{IfNone, IfSome}
use Rattle.cb_times.specs.Order.{field}
use Rattle.cb_delay.specs.declared.message.Message.{Message}
use Rattle.cb_member.specs.Foretelling.{IsNextAmong, NoneMayGo}
use Rattle.cb_member.proofs.ToldAhead.{AreTelling, begins_to_tell, fewer_left, is_row, next_is_counted, next_number, numbers_left, sender_is_counted, settled_again, tells_all, tells_on, time_fits_queue}
use Rattle.cb_member.proofs.delivery.Delivery.foretell.Goals as goal

pub deliveries-init : goal.deliveries-init
deliveries-init c = record {
  settled = record { time = refl; queue = record { size = refl; window = refl; now_held = refl } };
  telling = begins_to_tell c.args.coming.now.items c.args.self.now c.in_ok-time.time c.new-copies.result.items c.in_ok-time.ensures.equal c.new-copies.ensures.items;
}

pub next_among-requires-clause-size : goal.next_among-requires-clause-size
next_among-requires-clause-size c =
    time_fits_queue c.args.sender c.args.coming.now.items c.args.self.now c.deliveries.self c.requires c.deliveries.invariant.settled c.deliveries.time c.deliveries.copies.items c.deliveries.invariant.telling

pub next_among-requires-clause-sender : goal.next_among-requires-clause-sender
next_among-requires-clause-sender c =
    sender_is_counted c.args.sender c.args.coming.now.items c.args.self.now c.deliveries.self c.requires c.deliveries.invariant.settled c.deliveries.time c.deliveries.copies.items c.deliveries.invariant.telling

pub next_among-requires-clause-run : goal.next_among-requires-clause-run
next_among-requires-clause-run c =
    is_row c.args.sender c.args.coming.now.items c.args.self.now c.deliveries.self c.requires c.deliveries.invariant.settled c.deliveries.time c.deliveries.copies.items c.deliveries.invariant.telling

pub add_one-requires-clause-member : goal.add_one-requires-clause-member
add_one-requires-clause-member c =
    let some = subst (λ (next : Option Message). IfSome next (IsNextAmong c.deliveries.self.queue c.args.coming.now.items c.deliveries.time)) c.in-Some.is c.in_ok-message.ensures.some in
    next_is_counted c.args.sender c.args.coming.now.items c.args.self.now c.deliveries.self c.requires c.deliveries.invariant.settled c.deliveries.time c.deliveries.copies.items c.deliveries.invariant.telling c.in-Some.message some

pub add_one-requires-clause-room : goal.add_one-requires-clause-room
add_one-requires-clause-room c =
    let some = subst (λ (next : Option Message). IfSome next (IsNextAmong c.deliveries.self.queue c.args.coming.now.items c.deliveries.time)) c.in-Some.is c.in_ok-message.ensures.some in
    let next = next_number c.args.sender c.args.coming.now.items c.args.self.now c.deliveries.self c.requires c.deliveries.invariant.settled c.deliveries.time c.deliveries.copies.items c.deliveries.invariant.telling c.in-Some.message some in
    search (rules, tests)

pub deliveries-preserved : goal.deliveries-preserved
deliveries-preserved c =
    let some = subst (λ (next : Option Message). IfSome next (IsNextAmong c.deliveries.self.queue c.args.coming.now.items c.deliveries.time)) c.in-Some.is c.in_ok-message.ensures.some in
    record {
      settled = settled_again c.args.self.now c.deliveries.self c.next_among.new.queue c.deliveries.invariant.settled c.next_among.ensures.same;
      telling = subst (AreTelling c.args.coming.now.items c.args.self.now c.add_one.new.self) (sym c.in_ok-push.ensures.items)
          (tells_on c.args.coming.now.items c.args.self.now c.deliveries.self c.deliveries.invariant.settled c.deliveries.time c.deliveries.copies.items c.deliveries.invariant.telling c.in-Some.message some c.add_one.new.self c.add_one.ensures);
    }

pub deliveries-smaller : goal.deliveries-smaller
deliveries-smaller c =
    let some = subst (λ (next : Option Message). IfSome next (IsNextAmong c.deliveries.self.queue c.args.coming.now.items c.deliveries.time)) c.in-Some.is c.in_ok-message.ensures.some in
    let counted = next_is_counted c.args.sender c.args.coming.now.items c.args.self.now c.deliveries.self c.requires c.deliveries.invariant.settled c.deliveries.time c.deliveries.copies.items c.deliveries.invariant.telling c.in-Some.message some in
    let next = next_number c.args.sender c.args.coming.now.items c.args.self.now c.deliveries.self c.requires c.deliveries.invariant.settled c.deliveries.time c.deliveries.copies.items c.deliveries.invariant.telling c.in-Some.message some in
    let below : field c.deliveries.time c.in-Some.message.name.sender < 4294967296 = search (rules, tests) in
    subst (λ (t : List ℕ). numbers_left 4294967296 t < numbers_left 4294967296 c.deliveries.time) (sym c.add_one.ensures)
    (fewer_left 4294967296 c.deliveries.time c.in-Some.message.name.sender counted below)

pub returns-clause-same : goal.returns-clause-same
returns-clause-same c = settled_again c.args.self.now c.deliveries.self c.next_among.new.queue c.deliveries.invariant.settled c.next_among.ensures.same

pub returns-clause-copies : goal.returns-clause-copies
returns-clause-copies c =
    let none = subst (λ (next : Option Message). IfNone next (NoneMayGo c.deliveries.self.queue c.args.coming.now.items c.deliveries.time)) c.in_default.is c.in_ok-message.ensures.none in
    tells_all c.args.coming.now.items c.args.self.now c.deliveries.self c.deliveries.invariant.settled c.deliveries.time c.deliveries.copies.items c.deliveries.invariant.telling none
