-- What would be delivered were some more messages held, which come next of their sender.
use Rattle.std.specs.Prelude.{◌≡◌, ℕ, ◌<◌, ◌≤◌, ◌↔◌, ◌⊎◌, List, [], ◌∷◌, ◌++◌, map, Option, Some}
use Rattle.std.specs.List.{Contains}
use Rattle.cb_times.specs.Order.{field}
use Rattle.cb_frames.specs.Fields.{CastFields, Carried}
use Rattle.cb_delay.specs.declared.message.Message.{Message}
use Rattle.cb_delay.specs.Lists.{IsRun}
use Rattle.cb_delay.specs.Queue.{Queue, IsHeld}
use Rattle.cb_delay.specs.Rule.{IsReady}
use Rattle.cb_history.specs.DeliveryLaws.{IsOnTheWay}
use Rattle.cb_history.specs.QueueLaws.{IsUndelivered}
use Rattle.cb_history.specs.View.{counts, drain, message_in}
use Rattle.cb_member.specs.declared.delivery.Delivery.{Delivery}

-- the message may be delivered at this time
abbrev pub MayGo : List ℕ → Message → Type 0
MayGo now message = IsReady message.name.sender (field message.time) (field now)

-- the message is held, or one of these
abbrev pub IsHeldWith : Queue → List Message → Message → Type 0
IsHeldWith queue coming message = IsHeld queue message ⊎ Contains coming message

-- one of these that may be delivered at this time
pub record IsReadyOf (coming : List Message) (now : List ℕ) (message : Message) : Type 0 where
  pub there : Contains coming message
  pub ready : MayGo now message

-- and none of them may be
abbrev pub NoneOfThemMayGo : List Message → List ℕ → Type 0
NoneOfThemMayGo coming now = (message : Message) → Contains coming message → ¬ MayGo now message

-- it may be delivered at this time, and none of a smaller sender may be
pub record IsNextAmong (queue : Queue) (coming : List Message) (now : List ℕ) (message : Message) : Type 0 where
  pub there : IsHeldWith queue coming message
  pub ready : MayGo now message
  pub smallest : (other : Message) → IsHeldWith queue coming other → MayGo now other → message.name.sender ≤ other.name.sender

-- none may be delivered
abbrev pub NoneMayGo : Queue → List Message → List ℕ → Type 0
NoneMayGo queue coming now = (message : Message) → IsHeldWith queue coming message → ¬ MayGo now message

-- a message that is held of this sender and may be delivered at this time
pub record IsNextHeld (queue : Queue) (now : List ℕ) (sender : ℕ) (message : Message) : Type 0 where
  pub held : IsHeld queue message
  pub of_sender : message.name.sender ≡ sender
  pub ready : MayGo now message

-- the answer is such a message
abbrev pub HasNextOf : Queue → List ℕ → Option Message → ℕ → Type 0
HasNextOf queue now next sender = (message : Message) × (next ≡ Some message) × IsNextHeld queue now sender message

-- with these messages the queue has what is expanded of the casts and not among those seen, which are what is delivered
pub record WaitWith (size : ℕ) (casts : List CastFields) (seen : List Carried) (coming : List Message) (d : Delivery) : Type 0 where
  pub way : IsOnTheWay size casts seen
  pub time : d.time ≡ counts size seen
  pub of_size : d.queue.size ≡ size
  pub waits : (message : Message) → IsHeldWith d.queue coming message ↔ IsUndelivered size casts seen message

-- so it is on some way, and the messages are a row of this member's
pub record CanForetell (sender : ℕ) (coming : List Message) (d : Delivery) : Type 0 where
  pub size : ℕ
  pub casts : List CastFields
  pub seen : List Carried
  pub waits : WaitWith size casts seen coming d
  pub member : sender < size
  pub run : IsRun size sender coming

-- the messages are what a drain delivers
pub record AreDrained (size : ℕ) (casts : List CastFields) (seen : List Carried) (messages : List Message) : Type 0 where
  pub more : List Carried
  pub drained : drain size casts seen ≡ seen ++ more
  pub messages_are : messages ≡ map (message_in size casts) more

-- on every way on which these messages wait with the others
abbrev pub WouldDrain : Delivery → List Message → List Message → Type 0
WouldDrain d coming messages =
    (size : ℕ) (casts : List CastFields) (seen : List Carried) → WaitWith size casts seen coming d → AreDrained size casts seen messages
