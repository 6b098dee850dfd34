-- A delay queue of which it is known what number each sender's next message has.
use Rattle.std.specs.Prelude.{◌≡◌, ℕ, ◌+◌, ◌<◌, List, length, slice_index}
use Rattle.cb_times.specs.Group.{IsGroupSize}
use Rattle.cb_delay.specs.declared.message.Message.{Message}
use Rattle.cb_delay.specs.Queue.{Queue, IsHeld, IsLast}

pub record IsTracked (queue : Queue) (next : List ℕ) : Type 0 where
  pub group : IsGroupSize queue.size
  pub window_is : queue.window ≡ 12
  pub numbers : length next ≡ queue.size
  pub below : (message : Message) → IsHeld queue message → message.name.number < slice_index next message.name.sender
  pub last : (message : Message) → IsLast queue message.name.sender message → message.name.number + 1 ≡ slice_index next message.name.sender
