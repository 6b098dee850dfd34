use Rattle.std.proofs.Common.{◌≡◌, ◌+◌, ◌≤◌, ◌++◌, length, map}
use Rattle.std.specs.Vec.{vec_capacity, vec_len}
use Rattle.cb_schedules.specs.Schedule.{sent_by}
use Rattle.cb_world.specs.Outcomes.{sent_fields}
use Rattle.cb_world.proofs.taking.send.Given as goal

-- the frames that were sent so far and those still to come, for which there is room
abbrev pub invariant-loop-to : goal.invariant-loop-to
invariant-loop-to l = record {
  frames : map sent_fields l.sent.items ++ map (sent_by l.from) l.to-iterator.rest.items ≡ map sent_fields l.fn.sent.items ++ map (sent_by l.from) l.fn.out.items;
  room : vec_len l.sent + length l.to-iterator.rest.items ≤ vec_capacity l.sent;
}
