use Rattle.std.proofs.Common.{◌≡◌, ◌-◌, map}
use Rattle.cb_history.specs.View.{drained, drain}
use Rattle.cb_reference.specs.Messages.{carried_of}
use Rattle.cb_reference.proofs.view.drain.Given as goal

-- what is left of the budget leads to the same end
abbrev pub invariant-loop-delivered : goal.invariant-loop-delivered
invariant-loop-delivered l =
    drained l.size l.casts (l._delivered-end - l._delivered) (map carried_of l.seen.items)
    ≡ drain l.size l.casts (map carried_of l.initial.seen.items)
