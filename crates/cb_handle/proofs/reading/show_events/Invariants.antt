use Rattle.cb_handle.proofs.Showing.{EventsShown}
use Rattle.cb_handle.proofs.reading.show_events.Given as goal

-- so many events are shown
abbrev pub invariant-loop-count : goal.invariant-loop-count
invariant-loop-count l =
    EventsShown l.events l.initial.heads l.heads l.initial.payloads l.payloads l.initial.times l.times l.count l.end l.times_end
