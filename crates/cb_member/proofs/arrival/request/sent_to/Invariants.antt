use Rattle.std.proofs.Common.{◌≡◌, ◌++◌, map}
use Rattle.cb_history.specs.StabilityLaws.{sent_to}
use Rattle.cb_member.proofs.arrival.request.sent_to.Given as goal

-- the frames so far, and those still to come
abbrev pub invariant-loop-bytes : goal.invariant-loop-bytes
invariant-loop-bytes l = l.out.items ++ map (sent_to l.to) l.bytes-iterator.rest.items ≡ map (sent_to l.to) l.fn.frames.items
