use Rattle.std.proofs.Common.{arith}
use Rattle.cb_member.proofs.Foreseeing.{all_copies, one_copy_more}
use Rattle.cb_member.proofs.arrival.foreseen.copies_of.Goals as goal

pub loop-event-preserved : goal.loop-event-preserved
loop-event-preserved c = record {
  so_far = one_copy_more c.args.events.now c.loop-event.event-index c.event-item.result c.loop-event.copies.items _ c.loop-event-test.true c.event-item.is c.in_ok-join_copy.ensures c.loop-event.invariant.so_far;
}

pub returns : goal.returns
returns c = all_copies c.args.events.now c.loop-event.event-index c.loop-event.copies.items (omega (arith, c.loop-event-test.false)) c.loop-event.invariant.so_far
