use Rattle.std.proofs.Common.{◌≡◌, take}
use Rattle.cb_delay.proofs.message.Event.copies.Given as goal

-- the first ones are copied
abbrev pub invariant-loop-event : goal.invariant-loop-event
invariant-loop-event l = l.copies.items ≡ take l.event-index l.events
