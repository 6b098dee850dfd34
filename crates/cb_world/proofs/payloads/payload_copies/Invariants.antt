use Rattle.std.proofs.Common.{◌≡◌, take}
use Rattle.cb_world.proofs.payloads.payload_copies.Given as goal

-- the first ones are copied
abbrev pub invariant-loop-payload : goal.invariant-loop-payload
invariant-loop-payload l = l.copies.items ≡ take l.payload-index l.payloads
