use Rattle.std.proofs.Common.{◌≡◌, ◌+◌, drop, sum}
use Rattle.cb_handle.proofs.payloads.are_enough.Given as goal

-- as many bytes are left as the lengths before do not say
abbrev pub invariant-loop-length : goal.invariant-loop-length
invariant-loop-length l = sum l.lengths + l.left ≡ l.initial.bytes + sum (drop l.length-index l.lengths)
