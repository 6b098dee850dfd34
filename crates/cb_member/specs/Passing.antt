-- A cast of another member that carries one message and comes in order: it is expanded as soon as it is there. It is as if it had been kept and taken out.
-- Where its message may be delivered, and nothing else then, it is as if it had been held and released.
-- A burst that comes in order goes the same way as a whole, where nothing is held and its first message may be delivered.
use Rattle.std.specs.Prelude.{◌≡◌, ℕ, ◌<◌, List, [], ◌∷◌, ◌++◌, length, map, Some, slice_get, slice_set}
use Rattle.std.specs.FinMap as fin
use Rattle.cb_times.specs.Order.{field}
use Rattle.cb_frames.specs.Fields.{load_bytes, CastFields, Carried, first_number, messages_of}
use Rattle.cb_delay.specs.declared.message.Message.{Message}
use Rattle.cb_delay.specs.declared.message.Event.{Event}
use Rattle.cb_delay.specs.declared.message.Event.TheVariants.{Deliver}
use Rattle.cb_delay.specs.Queue.{Holds, IsDelayQueue}
use Rattle.cb_delay.specs.Rule.{IsReady}
use Rattle.cb_diffs.specs.Expansion.{IsGrown, time_of}
use Rattle.cb_gaps.specs.Buffer as gaps
use Rattle.cb_gaps.specs.Buffer.{Buffer}
use Rattle.cb_history.specs.Group.{Identity}
use Rattle.cb_history.specs.Facts.{Fact, CastReceived}
use Rattle.cb_history.specs.LegalFacts.{AreFactsOf}
use Rattle.cb_history.specs.Singles.{IsSingle}
use Rattle.cb_member.specs.declared.delivery.Delivery.{Delivery}
use Rattle.cb_member.specs.declared.reception.Reception.{Reception}
use Rattle.cb_member.specs.Delivery.{Drains, LeavesWaiting}
use Rattle.cb_member.specs.Reception.{HasReceivedAll}
use Rattle.cb_member.specs.Singles.{AreSparesFor}
use Rattle.cb_member.specs.Taking.{CanKeep, KeepsCast, ExpandsNext, HasNoNextOf, HasTurn, reported}

-- ---- expanded as soon as it is there

-- the sender's cast that begins with this number is the next one, and none of the sender's waits
pub record IsInOrder (sender number : ℕ) (r : Reception) : Type 0 where
  pub buffer : Buffer
  pub at : slice_get r.buffers.items sender ≡ Some buffer
  pub in_order : gaps.IsInOrder buffer number

-- the cast carries one message, may follow some facts, of which all that is expanded was taken, and comes in order
pub record CanTakeInOrder (c : CastFields) (r : Reception) : Type 0 where
  pub seat : Identity
  pub facts : List Fact
  pub delivered : ℕ
  pub single : IsSingle c
  pub legal : AreFactsOf seat (facts ++ CastReceived c ∷ [])
  pub received : HasReceivedAll seat facts r
  pub can_keep : CanKeep delivered c r
  pub in_order : IsInOrder c.sender (first_number c) r

-- and this is its time
pub record TakesAt (c : CastFields) (time : List ℕ) (r : Reception) : Type 0 where
  pub can : CanTakeInOrder c r
  pub grown : IsGrown (time_of r.expander c.sender) c time

-- its message, where this is its time
abbrev pub message_at : CastFields → List ℕ → Message
message_at c time = reported c time (load_bytes c.load)

-- as if it had been kept with some spare, and been taken out then, with none behind it
pub record TakesInOrder (c : CastFields) (old new : Reception) (message : Message) : Type 0 where
  pub between : Reception
  pub spare : List ℕ
  pub keeps : KeepsCast c (spare ∷ []) old between
  pub fits : AreSparesFor c (length old.expander) (spare ∷ [])
  pub expands : ExpandsNext c.sender between new message
  pub none : HasNoNextOf c.sender new new

-- ---- delivered alone

-- the queue can hold it next, it may be delivered, and nothing else may, then or before
pub record IsAlone (message : Message) (d : Delivery) : Type 0 where
  pub turn : HasTurn d.queue message
  pub fits : length message.time ≡ length d.time
  pub sender : message.name.sender < length d.time
  pub ready : IsReady message.name.sender (field message.time) (field d.time)
  pub leaves : LeavesWaiting message.name.sender d

-- the queue holds the message as well
pub record HoldsIt (old : Delivery) (message : Message) (new : Delivery) : Type 0 where
  pub time : new.time ≡ old.time
  pub is_queue : IsDelayQueue old.queue
  pub queue : Holds old.queue new.queue (fin.insert old.queue.held message.name message)

-- as if it had been held, and what was ready had been delivered then
pub record DeliversAlone (message : Message) (old new : Delivery) (before after : List Event) : Type 0 where
  pub held : Delivery
  pub holds : HoldsIt old message held
  pub drains : Drains held new before after

-- ---- a whole burst

-- a message of a burst whose first one has this time: it has the same but for its own number
abbrev pub carried_at : List ℕ → Carried → Message
carried_at time m = record { name = record { sender = m.sender; number = m.number }; time = slice_set time m.sender m.number; payload = m.payload }

-- the deliveries of all its messages, in order
abbrev pub deliveries_at : List ℕ → List Carried → List Event
deliveries_at time ms = map (λ m. Deliver (carried_at time m)) ms

abbrev pub burst_delivered : CastFields → List ℕ → List Event
burst_delivered c time = deliveries_at time (messages_of c)

-- with the burst among the facts all that is expanded was taken, as before
abbrev pub TakesBurst : CastFields → Reception → Reception → Type 0
TakesBurst c old new =
    (seat : Identity) (facts : List Fact) → AreFactsOf seat (facts ++ CastReceived c ∷ [])
    → HasReceivedAll seat facts old → HasReceivedAll seat (facts ++ CastReceived c ∷ []) new
