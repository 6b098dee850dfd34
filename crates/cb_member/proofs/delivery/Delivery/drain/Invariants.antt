use Rattle.std.proofs.Common.{◌+◌, ◌≤◌}
use Rattle.std.specs.FinMap as map
use Rattle.std.specs.Vec.{vec_capacity, vec_len}
use Rattle.cb_member.specs.Delivery.{IsWaiting, AreDraining}
use Rattle.cb_member.proofs.delivery.Delivery.drain.Given as goal

-- it still waits on the way, and there is room for all messages that wait
abbrev pub invariant-deliveries : goal.invariant-deliveries
invariant-deliveries l = record {
  waits : IsWaiting l.self;
  way : AreDraining l.fn.self l.self l.fn.events.items l.events.items;
  few : vec_len l.events + map.len l.self.queue.held ≤ vec_len l.fn.events + map.len l.fn.self.queue.held;
  room : vec_len l.events + map.len l.self.queue.held ≤ vec_capacity l.events;
}

abbrev pub decreases-deliveries : goal.decreases-deliveries
decreases-deliveries l = map.len l.self.queue.held
