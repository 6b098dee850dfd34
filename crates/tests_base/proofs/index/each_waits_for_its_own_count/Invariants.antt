use Rattle.std.proofs.Common.{◌≡◌, ◌<◌}
use Rattle.cb_delay.specs.declared.message.Message.{Message}
use Rattle.cb_delay.specs.Queue.{IsHeld}
use Rattle.tests_base.proofs.index.each_waits_for_its_own_count.Given as goal

-- those so far are held
abbrev pub invariant-loop-sender : goal.invariant-loop-sender
invariant-loop-sender g l = record {
  size : l.queue.size ≡ 64;
  window : l.queue.window ≡ 1;
  below : (held : Message) → IsHeld l.queue held → held.name.sender < l.sender;
}
