use Rattle.std.proofs.Common.{◌≡◌, ◌++◌, map, drop}
use Rattle.cb_history.specs.Facts.{casts_in}
use Rattle.cb_history.specs.State.{MemberState, facts_in}
use Rattle.cb_history.specs.Events.{event_in}
use Rattle.cb_reference.specs.Messages.{carried_of}
use Rattle.cb_reference.proofs.events.events_of.Given as goal

-- the events so far, and those of the other messages
abbrev pub invariant-loop-message : goal.invariant-loop-message
invariant-loop-message l =
    let m : MemberState = l.past in
    l.events.items ++ map (event_in m.seat (casts_in (facts_in m))) (map carried_of (drop l.message-index l.message-items)) ≡ map (event_in m.seat (casts_in (facts_in m))) (map carried_of l.message-items)
