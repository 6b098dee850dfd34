use Rattle.cb_handle.proofs.Parts.{SoFar}
use Rattle.cb_handle.proofs.held.Held.receive_parts.Given as goal

-- so many parts are received
abbrev pub invariant-loop-count : goal.invariant-loop-count
invariant-loop-count l = SoFar l.initial.first l.lengths l.initial.self l.self l.place l.count
