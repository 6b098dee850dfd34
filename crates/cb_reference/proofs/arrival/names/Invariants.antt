use Rattle.std.proofs.Common.{◌≡◌, ◌++◌, map, drop}
use Rattle.cb_delay.specs.declared.message.Message.{Message}
use Rattle.cb_reference.proofs.arrival.names.Given as goal

-- the names so far, and those of the other messages
abbrev pub invariant-loop-message : goal.invariant-loop-message
invariant-loop-message l = l.names.items ++ map (λ (m : Message). m.name) (drop l.message-index l.messages) ≡ map (λ (m : Message). m.name) l.messages
