use Rattle.confer_run.proofs.Seeing.{SawSome}
use Rattle.confer_run.proofs.participant.Participant.catch_up.Given as goal

abbrev pub invariant-loop-event : goal.invariant-loop-event
invariant-loop-event l = SawSome l.fn.self l.self l.left l.event-index
