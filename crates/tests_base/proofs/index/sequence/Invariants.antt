use Rattle.std.proofs.Common.{◌≡◌, length}
use Rattle.tests_base.specs.Tracked.{IsTracked}
use Rattle.tests_base.proofs.index.sequence.Given as goal

-- the queue is tracked, and its group's size is that of the time
abbrev pub invariant-loop : goal.invariant-loop
invariant-loop g l = record {
  tracked : IsTracked l.pair.tracked.queue l.pair.tracked.next.items;
  size : length l.pair.now.items ≡ l.pair.tracked.queue.size;
}
