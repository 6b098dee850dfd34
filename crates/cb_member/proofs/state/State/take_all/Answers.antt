use Rattle.std.proofs.Common.{refl}
use Rattle.cb_member.specs.Taking.{OnlyTakesIn}
use Rattle.cb_member.proofs.TakingIn.{TakesOne, takes_on, still_takes, is_receiving, time_fits_known, message_has_turn, all_taken, only_alike}
use Rattle.cb_member.proofs.state.State.take_all.Goals as goal

pub expand_next-requires : goal.expand_next-requires
expand_next-requires c = is_receiving c.args.sender c.messages.self c.messages.invariant.taking

pub raise-requires : goal.raise-requires
raise-requires c = time_fits_known c.args.sender c.messages.self c.expand_next.new.self c.in-Some.message c.messages.invariant.taking c.in-Some.ensures.some

pub hold_next-requires : goal.hold_next-requires
hold_next-requires c = message_has_turn c.args.sender c.messages.self c.expand_next.new.self c.in-Some.message c.messages.invariant.taking c.in-Some.ensures.some

pub messages-preserved : goal.messages-preserved
messages-preserved c =
    let was = c.messages.self in
    let only : OnlyTakesIn was _ = record { seat = refl; time = refl; acks = refl; sending = refl; relays = refl } in
    let one : TakesOne c.args.sender was _ c.in-Some.message = record {
      expands = c.in-Some.ensures.some;
      fields = c.raise.ensures.size;
      raised = λ i other. c.raise.ensures.each i;
      is_queue = c.hold_next.ensures.queue;
      queue = c.hold_next.ensures.held;
      only = only;
    } in
    record {
      taking = still_takes c.args.sender was _ c.in-Some.message c.messages.invariant.taking one;
      so_far = takes_on c.args.sender c.args.self.now was _ c.in-Some.message c.messages.invariant.so_far one;
      only = only_alike c.args.self.now was _ c.messages.invariant.only only;
    }

pub returns-clause-takes : goal.returns-clause-takes
returns-clause-takes c = all_taken c.args.sender c.args.self.now c.messages.self _ c.messages.invariant.so_far c.in_default.ensures.none refl
