use Rattle.std.proofs.Common.{◌≡◌, ◌++◌, drop}
use Rattle.cb_member.proofs.Bursting.{lent}
use Rattle.cb_member.proofs.own_burst.lodged.Given as goal

-- the handles so far, and the payloads still to come
abbrev pub invariant-loop-payload : goal.invariant-loop-payload
invariant-loop-payload l = l.handles.items ++ lent (drop l.payload-index l.payloads) ≡ lent l.payloads
