use Rattle.std.proofs.Common.{◌≡◌, ◌++◌, map, drop}
use Rattle.cb_reference.proofs.Casting.{payload_of}
use Rattle.cb_reference.proofs.cast.copies.Given as goal

-- the copies so far, and those of the other payloads
abbrev pub invariant-loop-payload : goal.invariant-loop-payload
invariant-loop-payload l = l.copies.items ++ map payload_of (drop l.payload-index l.payloads) ≡ map payload_of l.payloads
