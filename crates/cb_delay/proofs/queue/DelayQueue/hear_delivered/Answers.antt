use Rattle.cb_delay.proofs.Kept.{is_delay_queue}
use Rattle.cb_delay.proofs.Deques.{lists_of, queue_seen}
use Rattle.cb_delay.proofs.queue.DelayQueue.hear_delivered.Goals as goal

pub returns-clause-queue : goal.returns-clause-queue
returns-clause-queue c =
    rw (← c.self.view_is) (queue_seen _ _ (is_delay_queue c.self.inside.window (lists_of c.self.inside.lists.items) c.self.invariant.0))
