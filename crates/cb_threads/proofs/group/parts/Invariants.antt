use Rattle.std.proofs.Common.{◌≡◌, ◌++◌, length, map}
use Rattle.cb_threads.proofs.group.parts.Given as goal

-- there are as many left of each, and with what was made they are all
abbrev pub invariant-loop-inlet : goal.invariant-loop-inlet
invariant-loop-inlet g l =
    (length l.inlet-iterator.rest.items ≡ length l.paces.rest.items)
    × (length l.inlet-iterator.rest.items ≡ length l.talkers.rest.items)
    × (map (λ p. (p.receiver, p.sender)) l.parts.items ++ l.inlet-iterator.rest.items ≡ l.fn.links.items)
    × (map (λ p. p.timer) l.parts.items ++ l.paces.rest.items ≡ l.fn.paces.items)
