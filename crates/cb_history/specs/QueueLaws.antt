-- The delay queue and the view: a queue that holds what is expanded and not delivered has ready what is delivered next.
use Rattle.std.specs.Prelude.{◌≡◌, ℕ, ◌↔◌, true, false, List, [], ◌∷◌, ◌++◌, Some, None}
use Rattle.cb_frames.specs.Fields.{CastFields, Carried}
use Rattle.cb_delay.specs.declared.message.Message.{Message}
use Rattle.cb_delay.specs.Queue.{Queue, IsHeld, HasReady, IsSmallestReady, IsFirst, Releases}
use Rattle.cb_history.specs.View.{counts, expanded_in, is_among, is_ready, next_delivery, message_in}
use Rattle.cb_history.specs.NameLaws.{IsOneOf}
use Rattle.cb_history.specs.DeliveryLaws.{IsOnTheWay}

-- the message, with its time from these casts, is expanded and not among those seen
pub record IsUndelivered (size : ℕ) (casts : List CastFields) (seen : List Carried) (message : Message) : Type 0 where
  pub carried : Carried
  pub expanded : IsOneOf carried (expanded_in casts)
  pub unseen : is_among seen carried ≡ false
  pub timed : message ≡ message_in size casts carried

-- the queue is one of a group of this size, and holds exactly what is expanded and not yet delivered
pub record HoldsUndelivered (size : ℕ) (casts : List CastFields) (seen : List Carried) (queue : Queue) : Type 0 where
  pub of_size : queue.size ≡ size
  pub holds : (message : Message) → IsHeld queue message ↔ IsUndelivered size casts seen message

-- it holds of every such queue, where the casts and what was seen are as they are while a member delivers
abbrev pub EachWaitingQueue : (ℕ → List CastFields → List Carried → Queue → Type 0) → Type 0
EachWaitingQueue P =
    (size : ℕ) (casts : List CastFields) (seen : List Carried) (queue : Queue)
    → IsOnTheWay size casts seen → HoldsUndelivered size casts seen queue → P size casts seen queue

-- an expanded message of this sender is ready
pub record HasReadyOf (size : ℕ) (casts : List CastFields) (seen : List Carried) (sender : ℕ) : Type 0 where
  pub carried : Carried
  pub expanded : IsOneOf carried (expanded_in casts)
  pub of_sender : carried.sender ≡ sender
  pub ready : is_ready size casts seen carried ≡ true

-- the queue has a ready message of a sender exactly where the walk has
abbrev pub ReadyIsReady : Type 0
ReadyIsReady = EachWaitingQueue (λ size casts seen queue. (sender : ℕ) → HasReady queue (counts size seen) sender ↔ HasReadyOf size casts seen sender)

-- the next delivery is of this sender
abbrev pub NextIsOf : ℕ → List CastFields → List Carried → ℕ → Type 0
NextIsOf size casts seen sender = (m : Carried) × (next_delivery size casts seen ≡ Some m) × (m.sender ≡ sender)

-- the smallest sender with a ready message is that of the next delivery
abbrev pub NextReadyIsNextDelivery : Type 0
NextReadyIsNextDelivery = EachWaitingQueue (λ size casts seen queue. (sender : ℕ) → IsSmallestReady queue (counts size seen) sender ↔ NextIsOf size casts seen sender)

-- and where no sender has one, nothing is delivered next
abbrev pub NoneReadyIsNothingNext : Type 0
NoneReadyIsNothingNext = EachWaitingQueue (λ size casts seen queue. ((sender : ℕ) → ¬ HasReady queue (counts size seen) sender) ↔ (next_delivery size casts seen ≡ None))

-- the next delivery is the first message held of its sender
abbrev pub NextDeliveryIsFirst : Type 0
NextDeliveryIsFirst = EachWaitingQueue (λ size casts seen queue.
    (m : Carried) → next_delivery size casts seen ≡ Some m → IsFirst queue m.sender (message_in size casts m))

-- and a queue that releases it holds what is not delivered then
abbrev pub ReleaseIsDelivery : Type 0
ReleaseIsDelivery = EachWaitingQueue (λ size casts seen queue.
    (m : Carried) (after : Queue) → next_delivery size casts seen ≡ Some m → Releases queue after (message_in size casts m)
    → HoldsUndelivered size casts (seen ++ m ∷ []) after)

-- of a sender there is no other first message than that
abbrev pub FirstIsNextDelivery : Type 0
FirstIsNextDelivery = EachWaitingQueue (λ size casts seen queue.
    (m : Carried) (first : Message) → next_delivery size casts seen ≡ Some m → IsFirst queue m.sender first → first ≡ message_in size casts m)
