use Rattle.std.proofs.Common.{◌≡◌, map, drop}
use Rattle.std.specs.List.{filter}
use Rattle.cb_history.specs.View.{of_smallest_sender, is_ready, is_expanded, next_delivery}
use Rattle.cb_reference.specs.Messages.{carried_of, as_carried}
use Rattle.cb_reference.proofs.Walks.{joined}
use Rattle.cb_reference.proofs.view.next_delivery.Given as goal

-- the best so far, or the best of the other messages
abbrev pub invariant-loop-message : goal.invariant-loop-message
invariant-loop-message l =
    joined (as_carried l.next)
    (of_smallest_sender (filter (is_ready l.size l.casts (map carried_of l.seen)) (filter (is_expanded l.casts) (map carried_of (drop l.message-index l.message-items)))))
    ≡ next_delivery l.size l.casts (map carried_of l.seen)
