use Rattle.std.proofs.Common.{◌≡◌, ◌+◌, ◌++◌, length, drop}
use Rattle.cb_times.specs.Order.{field}
use Rattle.cb_member.proofs.Casting.{stamped}
use Rattle.cb_member.proofs.state.State.messages_of.Given as goal

-- the messages so far, and those still to be made from the time that is reached
abbrev pub invariant-loop-payload : goal.invariant-loop-payload
invariant-loop-payload l = record {
  so_far : l.messages.items ++ stamped l.me l.time (drop l.payload-index l.payloads) ≡ stamped l.me l.fn.self.delivery.time l.payloads;
  fields : length l.time ≡ length l.fn.self.delivery.time;
  counted : field l.time l.me ≡ field l.fn.self.delivery.time l.me + l.payload-index;
}
