use Rattle.std.proofs.Common.{◌≡◌, take, map}
use Rattle.cb_lock.proofs.held.slices_of.Given as goal

abbrev pub invariant-loop-payload : goal.invariant-loop-payload
invariant-loop-payload l = map (λ slice. slice.now) l.slices.items ≡ map (λ payload. payload.items) (take l.payload-index l.payloads)
