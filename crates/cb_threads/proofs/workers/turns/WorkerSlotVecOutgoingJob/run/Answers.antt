use Rattle.std.proofs.Common.{arith}
use Rattle.cb_threads.proofs.workers.turns.WorkerSlotVecOutgoingJob.run.Goals as goal

pub loop-turn-preserved : goal.loop-turn-preserved
loop-turn-preserved g c = (
  c.and-course.ensures.met _ _ c.turn.ensures.rises c.turn.ensures.counted _ c.loop-turn.invariant.0,
  omega (arith, c.and-course.ensures.at_most, c.loop-turn.invariant.1),
)
