use Rattle.std.proofs.Common.{arith}
use Rattle.cb_member.proofs.Draining.{still_waits, goes_on, is_drained}
use Rattle.cb_member.proofs.delivery.Delivery.drain.Goals as goal

pub deliveries-preserved : goal.deliveries-preserved
deliveries-preserved c =
    let next = c.in-Some.ensures.some in
    record {
      waits = still_waits c.deliveries.self c.deliver_next.new.self c.in-Some.message c.deliveries.invariant.waits next;
      way = goes_on c.args.self.now c.deliveries.self c.deliver_next.new.self c.in-Some.message
          c.args.events.now.items c.deliveries.events.items c.push_reserved.new.self.items c.deliveries.invariant.way next c.push_reserved.ensures.items;
      few = omega (arith, c.deliveries.invariant.few, next.one_less, c.push_reserved.ensures.len);
      room = omega (arith, c.deliveries.invariant.room, next.one_less, c.push_reserved.ensures.len, c.push_reserved.ensures.capacity);
    }

pub returns-clause-drained : goal.returns-clause-drained
returns-clause-drained c = is_drained c.args.self.now c.deliveries.self c.deliver_next.new.self c.args.events.now.items c.deliveries.events.items c.deliveries.invariant.way c.in_default.ensures.none
