-- What a member has delivered and what waits, on the way of a walk over its casts.
use Rattle.std.specs.Prelude.{◌≡◌, ℕ, ◌+◌, List, [], ◌∷◌, ◌++◌, map, replicate, slice_set, Some, None}
use Rattle.std.specs.FinMap as fin
use Rattle.cb_times.specs.Order.{field}
use Rattle.cb_frames.specs.Fields.{CastFields, Carried}
use Rattle.cb_delay.specs.declared.message.Message.{Message}
use Rattle.cb_delay.specs.declared.message.Event.{Event}
use Rattle.cb_delay.specs.declared.message.Event.TheVariants.{Deliver}
use Rattle.cb_delay.specs.Queue.{IsNew, Holds, HasReady}
use Rattle.cb_history.specs.View.{counts, next_delivery, drain, message_in}
use Rattle.cb_history.specs.DeliveryLaws.{IsOnTheWay}
use Rattle.cb_history.specs.QueueLaws.{HoldsUndelivered}
use Rattle.cb_member.specs.declared.delivery.Delivery.{Delivery}

-- nothing is delivered, and a queue of the group holds nothing
pub record IsNewDelivery (size window : ℕ) (d : Delivery) : Type 0 where
  pub time : d.time ≡ replicate size 0
  pub queue : IsNew size window d.queue

-- these messages are delivered of these casts, and the queue holds the others that are expanded
pub record Waits (size : ℕ) (casts : List CastFields) (seen : List Carried) (d : Delivery) : Type 0 where
  pub way : IsOnTheWay size casts seen
  pub time : d.time ≡ counts size seen
  pub queue : HoldsUndelivered size casts seen d.queue

-- it waits on the way of some walk
pub record IsWaiting (d : Delivery) : Type 0 where
  pub size : ℕ
  pub casts : List CastFields
  pub seen : List Carried
  pub waits : Waits size casts seen d

-- nothing has changed but what the queue remembers of its last answer
pub record IsSettled (old new : Delivery) : Type 0 where
  pub time : new.time ≡ old.time
  pub queue : Holds old.queue new.queue old.queue.held

-- nothing that waits may be delivered
abbrev pub NoneReady : Delivery → Type 0
NoneReady d = (i : ℕ) → ¬ HasReady d.queue d.time i

-- nor once one message more of the sender is
pub record LeavesWaiting (sender : ℕ) (d : Delivery) : Type 0 where
  pub none : NoneReady d
  pub none_then : (i : ℕ) → ¬ HasReady d.queue (slice_set d.time sender (field d.time sender + 1)) i

-- on every way on which it waits, the message is the next delivery, and then it waits on behind it
pub record DeliversNext (old new : Delivery) (message : Message) : Type 0 where
  pub next : (size : ℕ) (casts : List CastFields) (seen : List Carried) → Waits size casts seen old
      → (m : Carried) × (next_delivery size casts seen ≡ Some m) × (message ≡ message_in size casts m) × Waits size casts (seen ++ m ∷ []) new
  pub window : new.queue.window ≡ old.queue.window
  pub one_less : fin.len new.queue.held + 1 ≡ fin.len old.queue.held

-- there is no next delivery on any way on which it waits, and nothing has changed
pub record HasNoNext (old new : Delivery) : Type 0 where
  pub none : (size : ℕ) (casts : List CastFields) (seen : List Carried) → Waits size casts seen old
      → (next_delivery size casts seen ≡ None) × Waits size casts seen new
  pub window : new.queue.window ≡ old.queue.window

-- the events of these deliveries
abbrev pub delivered_in : ℕ → List CastFields → List Carried → List Event
delivered_in size casts ms = map (λ m. Deliver (message_in size casts m)) ms

-- on the way from `old` these messages were delivered so far, each of them is an event, and the drain goes on to its end
pub record IsDraining (size : ℕ) (casts : List CastFields) (seen : List Carried) (old new : Delivery) (before after : List Event) : Type 0 where
  pub more : List Carried
  pub same_end : drain size casts (seen ++ more) ≡ drain size casts seen
  pub waits : Waits size casts (seen ++ more) new
  pub events : after ≡ before ++ delivered_in size casts more
  pub window : new.queue.window ≡ old.queue.window

abbrev pub AreDraining : Delivery → Delivery → List Event → List Event → Type 0
AreDraining old new before after =
    (size : ℕ) (casts : List CastFields) (seen : List Carried) → Waits size casts seen old
    → IsDraining size casts seen old new before after

-- on every way on which it waits, these deliveries drain it, and each of them is an event
pub record IsDrained (size : ℕ) (casts : List CastFields) (seen : List Carried) (old new : Delivery) (before after : List Event) : Type 0 where
  pub more : List Carried
  pub drained : drain size casts seen ≡ seen ++ more
  pub waits : Waits size casts (seen ++ more) new
  pub events : after ≡ before ++ delivered_in size casts more
  pub window : new.queue.window ≡ old.queue.window

abbrev pub Drains : Delivery → Delivery → List Event → List Event → Type 0
Drains old new before after =
    (size : ℕ) (casts : List CastFields) (seen : List Carried) → Waits size casts seen old
    → IsDrained size casts seen old new before after
