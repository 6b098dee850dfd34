use Rattle.std.proofs.Common.{◌≤◌}
use Rattle.cb_links.specs.Counts.{MetAtMost}
use Rattle.cb_threads.proofs.workers.turns.WorkerSlotVecOutgoingJob.run.Given as goal

-- what was met so far was counted, and in each turn at most one arrival was refused
abbrev pub invariant-loop-turn : goal.invariant-loop-turn
invariant-loop-turn g l = MetAtMost l.course.failures (g.W.Role.failed (g.W.Role.part l.fn.self.part)) (g.W.Role.failed (g.W.Role.part l.role)) × (l.course.refused ≤ l._turn)
