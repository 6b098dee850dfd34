use Rattle.std.proofs.Common.{◌≡◌, true, map, take}
use Rattle.std.specs.List.{concat}
use Rattle.cb_schedules.specs.Schedule.{are_bytes}
use Rattle.cb_world.proofs.payloads.payload_slices.Given as goal

-- the first ones are there
abbrev pub invariant-loop-payload : goal.invariant-loop-payload
invariant-loop-payload l = record {
  slices : map (λ payload. payload.now) l.slices.items ≡ take l.payload-index l.payloads;
  bytes : are_bytes (concat (take l.payload-index l.payloads)) ≡ true;
}
