use Rattle.cb_delay.proofs.Room.{none_is_held}
use Rattle.tests_base.proofs.index.each_waits_for_its_own_count.Goals as goal

pub loop-sender-init : goal.loop-sender-init
loop-sender-init g c =
    let new = rw c.expect-queue.ensures at c.new.ensures in
    record {
      size = new.of_size;
      window = new.of_window;
      below = λ held is. absurd (none_is_held c.expect-queue.result new.empty held is);
    }
