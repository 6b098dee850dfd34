use Rattle.std.proofs.Common.{◌≡◌, ◌++◌, map, drop}
use Rattle.cb_history.specs.View.{message_in}
use Rattle.cb_reference.specs.Messages.{carried_of}
use Rattle.cb_reference.proofs.arrival.messages_in.Given as goal

-- the deliveries so far, and those of the other messages
abbrev pub invariant-loop-message : goal.invariant-loop-message
invariant-loop-message l =
    l.deliveries.items ++ map (message_in l.size l.casts) (map carried_of (drop l.message-index l.messages)) ≡ map (message_in l.size l.casts) (map carried_of l.messages)
