-- What holds of every delay queue, for who keeps count of what is held.
use Rattle.std.specs.Prelude.{◌≡◌, ℕ, ◌+◌, ◌<◌, ◌≤◌}
use Rattle.cb_delay.specs.declared.message.Message.{Message}
use Rattle.cb_delay.specs.Queue.{Queue, IsHeld, IsDelayQueue, count_of}

-- the messages held of a sender, all with numbers from low on and below high, are at most high less low
abbrev pub CountIsWithin : Type 0
CountIsWithin =
    (queue : Queue) (sender low high : ℕ) → IsDelayQueue queue → low ≤ high
    → ((message : Message) → IsHeld queue message → message.name.sender ≡ sender → (low ≤ message.name.number) × (message.name.number < high))
    → low + count_of queue sender ≤ high
