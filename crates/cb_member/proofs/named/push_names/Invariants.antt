use Rattle.std.proofs.Common.{◌≡◌, ◌≤◌, ◌++◌, length, drop}
use Rattle.cb_member.specs.Received.{names_of}
use Rattle.cb_member.proofs.named.push_names.Given as goal

-- the names so far, and those of the other events
abbrev pub invariant-loop-event : goal.invariant-loop-event
invariant-loop-event l = record {
  names : l.names.items ++ names_of (drop l.event-index l.events) ≡ names_of l.events;
  few : length l.names.items ≤ l.event-index;
  room : length l.events ≤ l.names.capacity;
}
