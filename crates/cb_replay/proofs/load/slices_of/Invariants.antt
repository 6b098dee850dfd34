use Rattle.std.proofs.Common.{◌≡◌, map, take}
use Rattle.cb_replay.proofs.load.slices_of.Given as goal

-- the first ones are there
abbrev pub invariant-loop-payload : goal.invariant-loop-payload
invariant-loop-payload l = map (λ payload. payload.now) l.slices.items ≡ take l.payload-index l.payloads
