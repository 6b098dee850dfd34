use Rattle.std.proofs.Common.{◌≡◌, ◌++◌, drop}
use Rattle.cb_member.specs.Knowledge.{delivered_by}
use Rattle.cb_member.proofs.arrival.foreseen.copies_of.Given as goal

-- the copies so far, and those of the other events
abbrev pub invariant-loop-event : goal.invariant-loop-event
invariant-loop-event l = record { so_far : l.copies.items ++ delivered_by (drop l.event-index l.events) ≡ delivered_by l.events }
