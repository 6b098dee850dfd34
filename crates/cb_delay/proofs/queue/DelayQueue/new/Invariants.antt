use Rattle.std.proofs.Common.{◌≡◌, length}
use Rattle.cb_delay.proofs.Deques.{AreFresh}
use Rattle.cb_delay.proofs.queue.DelayQueue.new.Given as goal

-- the lists so far are empty and have their places
abbrev pub invariant-loop : goal.invariant-loop
invariant-loop l = record { made : length l.lists.items ≡ l.counter; fresh : AreFresh l.window l.lists.items }
