use Rattle.std.proofs.Common.{length}
use Rattle.confer_expand.proofs.Saying.{TakenSoFar}
use Rattle.confer_expand.proofs.lines.Lines.take.Given as goal

abbrev pub invariant-loop-end : goal.invariant-loop-end
invariant-loop-end l =
    TakenSoFar l.fn.self.begun.items l.piece l.fn.self.expansion l.self.expansion l.fn.self.answers l.self.answers l.self.begun.items l.rest

abbrev pub decreases-loop-end : goal.decreases-loop-end
decreases-loop-end l = length l.rest
