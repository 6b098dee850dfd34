use Rattle.std.proofs.Common.{◌≡◌, ◌+◌, ℕ, [], length, arith, subst, ap}
use Rattle.cb_times.specs.Order.{field}
use Rattle.cb_delay.specs.Lists.{list_of}
use Rattle.cb_delay.specs.Index.{HasShape, settled_at}
use Rattle.cb_delay.proofs.Kept.{is_delay_queue}
use Rattle.cb_delay.proofs.Deques.{lists_of, queue_seen}
use Rattle.cb_delay.proofs.Answering.{none_ready, none_ready_with}
use Rattle.cb_delay.proofs.queue.DelayQueue.leaves_waiting.Goals as goal

pub settle-requires-clause-runs : goal.settle-requires-clause-runs
settle-requires-clause-runs c = rw c.deref.ensures.value c.self.invariant.0.runs

pub returns-clause-none : goal.returns-clause-none
returns-clause-none c waits =
    let size = rw (← c.self.view_is) at c.requires.length in
    let told = rw c.deref.ensures.value at c.settle.ensures.placed in
    rw (← c.self.view_is)
    (none_ready c.self.inside.window (lists_of c.self.inside.lists.items) c.self.invariant.0 c.settle.new.self
    (subst (λ (n : ℕ). HasShape n c.settle.new.self) size c.settle.ensures.shape) told c.settle.ensures.stale
    c.args.now.now c.settle.ensures.last c.self.inside.index.looked (settled_at c.self.inside.index)
    (c.none_goes_with.ensures.none waits))

pub returns-then-holds_some-clause-queue : goal.returns-then-holds_some-clause-queue
returns-then-holds_some-clause-queue c =
    rw (← c.self.view_is) (queue_seen _ _ (is_delay_queue c.self.inside.window (lists_of c.self.inside.lists.items) c.self.invariant.0))

pub returns-clause-none_next : goal.returns-clause-none_next
returns-clause-none_next c waits =
    let size = rw (← c.self.view_is) at c.requires.length in
    let below = rw (← c.self.view_is) at c.requires.sender in
    let told = rw c.deref.ensures.value at c.settle.ensures.placed in
    let deques = c.self.inside.lists.items in
    let empty : list_of (lists_of deques) c.args.sender ≡ [] = rw c.deref-2.ensures.value at c.holds_some.ensures c.if-holds_some.false in
    rw (← c.self.view_is, ← c.settle.ensures.last)
    (none_ready_with c.self.inside.window (lists_of deques) c.self.invariant.0 c.settle.new.self
    (subst (λ (n : ℕ). HasShape n c.settle.new.self) size c.settle.ensures.shape) told c.settle.ensures.stale
    c.args.sender (field c.settle.new.self.last c.args.sender + 1)
    (omega (arith, below, size, ap length c.settle.ensures.last)) (omega arith) empty (c.none_goes_with.ensures.none waits)
    (c.none_goes_with.ensures.none_reached waits) c.self.inside.index.looked (settled_at c.self.inside.index))

pub returns-clause-queue : goal.returns-clause-queue
returns-clause-queue c =
    rw (← c.self.view_is) (queue_seen _ _ (is_delay_queue c.self.inside.window (lists_of c.self.inside.lists.items) c.self.invariant.0))
