use Rattle.std.proofs.Common.{ℕ, subst}
use Rattle.cb_delay.specs.Index.{HasShape, settled_at}
use Rattle.cb_delay.proofs.Kept.{is_delay_queue}
use Rattle.cb_delay.proofs.Deques.{lists_of, queue_seen}
use Rattle.cb_delay.proofs.Answering.{answers_some, answers_none}
use Rattle.cb_delay.proofs.queue.DelayQueue.next_ready.Goals as goal

pub settle-requires-clause-runs : goal.settle-requires-clause-runs
settle-requires-clause-runs c = rw c.deref.ensures.value c.self.invariant.0.runs

pub returns-clause-some : goal.returns-clause-some
returns-clause-some c =
    let size = rw (← c.self.view_is) at c.requires in
    let told = rw c.deref.ensures.value at c.settle.ensures.placed in
    rw (← c.self.view_is)
    (answers_some c.self.inside.window (lists_of c.self.inside.lists.items) c.self.invariant.0 c.settle.new.self
    (subst (λ (n : ℕ). HasShape n c.settle.new.self) size c.settle.ensures.shape) told c.settle.ensures.stale
    c.args.now.now c.settle.ensures.last c.self.inside.index.looked (settled_at c.self.inside.index)
    c.first.result c.first.ensures.member c.first.ensures.least)

pub returns-clause-none : goal.returns-clause-none
returns-clause-none c =
    let size = rw (← c.self.view_is) at c.requires in
    let told = rw c.deref.ensures.value at c.settle.ensures.placed in
    rw (← c.self.view_is)
    (answers_none c.self.inside.window (lists_of c.self.inside.lists.items) c.self.invariant.0 c.settle.new.self
    (subst (λ (n : ℕ). HasShape n c.settle.new.self) size c.settle.ensures.shape) told c.settle.ensures.stale
    c.args.now.now c.settle.ensures.last c.self.inside.index.looked (settled_at c.self.inside.index)
    c.first.result c.first.ensures.none)

pub returns-clause-queue : goal.returns-clause-queue
returns-clause-queue c =
    rw (← c.self.view_is) (queue_seen _ _ (is_delay_queue c.self.inside.window (lists_of c.self.inside.lists.items) c.self.invariant.0))
