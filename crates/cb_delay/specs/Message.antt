-- What a message of a group is, and the order of names.
use Rattle.std.specs.Prelude.{◌≡◌, ℕ, ◌<◌, length}
use Rattle.std.specs.declared.cmp.Ordering.{Ordering}
use Rattle.std.specs.Ordering.{nat_cmp, ordering_then}
use Rattle.cb_times.specs.Order.{field}
use Rattle.cb_times.specs.declared.name.Name.{Name}
use Rattle.cb_delay.specs.declared.message.Message.{Message}
use Rattle.cb_delay.specs.declared.message.Event.{Event}
use Rattle.cb_delay.specs.declared.message.Event.TheVariants.{Cast, Deliver}

-- first by the sender, and then by the number
abbrev pub name_cmp : Name → Name → Ordering
name_cmp a b = ordering_then (nat_cmp a.sender b.sender) (nat_cmp a.number b.number)

-- the sender is in a group of this size, and the message has a time of that group that counts it
pub record IsOfGroup (size : ℕ) (message : Message) : Type 0 where
  pub sender : message.name.sender < size
  pub time : length message.time ≡ size
  pub own : field message.time message.name.sender ≡ message.name.number

-- the message that an event casts or delivers
abbrev pub message_of : Event → Message
message_of (Cast message) = message
message_of (Deliver message) = message
