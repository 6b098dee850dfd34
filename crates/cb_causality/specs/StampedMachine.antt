-- The causal machine with vector times, as Birman, Schiper and Stephenson run it (1991, section 5): a cast is stamped
-- with what its member has counted, and the delay rule alone decides on a delivery. Its events are those of a member.
use Rattle.std.specs.Prelude.{◌≡◌, ◌≢◌, ℕ, ◌<◌, List, [], map, length, slice_get, Some}
use Rattle.cb_times.specs.Order.{field}
use Rattle.cb_delay.specs.Message.{message_of}
use Rattle.cb_delay.specs.Rule.{IsReady}
use Rattle.cb_times.specs.declared.name.Name.{Name}
use Rattle.cb_delay.specs.declared.message.Message.{Message}
use Rattle.cb_delay.specs.declared.message.Event.{Event}
use Rattle.cb_delay.specs.declared.message.Event.TheVariants.{Cast, Deliver}
use Rattle.cb_causality.specs.declared.event.CausalEvent.{CausalEvent}
use Rattle.cb_causality.specs.declared.event.CausalEvent.TheVariants as causal
use Rattle.cb_causality.specs.Events.{count, next_name}
use Rattle.cb_causality.specs.HappenedBefore.{Lists}
use Rattle.cb_causality.specs.Lists.{Appends}

-- what each member's list of events with their times is
abbrev pub StampedLists : Type 0
StampedLists = ℕ → List Event

-- the event without its time
abbrev pub without_time : Event → CausalEvent
without_time (Cast message) = causal.Cast message.name message.payload
without_time (Deliver message) = causal.Deliver message.name message.payload

-- a list without its times
abbrev pub without_times : List Event → List CausalEvent
without_times events = map without_time events

-- the lists without their times
abbrev pub erased : StampedLists → Lists
erased lists k = without_times (lists k)

-- how many messages of each member a list has, casts and deliveries
abbrev pub counts_of : List Event → ℕ → ℕ
counts_of events k = count k (without_times events)

-- a time with a field for each member, which has at field k how many messages of k the list has
pub record IsTimeOfList (size : ℕ) (time : List ℕ) (events : List Event) : Type 0 where
  pub fields : length time ≡ size
  pub counts : (k : ℕ) → field time k ≡ counts_of events k

-- member i's next message with this time and this payload, where its list is this
abbrev pub next_message : ℕ → List Event → List ℕ → List ℕ → Message
next_message i events time payload =
    record { name = next_name i (without_times events); time = time; payload = payload }

-- Member i has cast its next message, stamped with what its list has with that cast.
pub record CastsStamped (size : ℕ) (before after : StampedLists) (i : ℕ) (payload : List ℕ) : Type 0 where
  pub time : List ℕ
  pub appends : Appends before after i (Cast (next_message i (before i) time payload))
  pub stamp : IsTimeOfList size time (after i)

-- The delay rule lets the receiver deliver the message: another member has cast it, and its time is ready at what the
-- receiver's list has.
pub record DelayRuleAllows (lists : StampedLists) (receiver : ℕ) (message : Message) : Type 0 where
  pub caster : ℕ
  pub index : ℕ
  pub another : caster ≢ receiver
  pub stands : slice_get (lists caster) index ≡ Some (Cast message)
  pub ready : IsReady caster (field message.time) (counts_of (lists receiver))

-- one step of a group of this size
pub data StampedStep (size : ℕ) (before after : StampedLists) : Type 0 where
  -- member i casts its next message
  Casts : (i : ℕ) (payload : List ℕ) → i < size → CastsStamped size before after i payload
      → StampedStep size before after
  -- member j delivers a message where the delay rule lets it; the message's time goes with it
  Delivers : (j : ℕ) (message : Message) → j < size → DelayRuleAllows before j message
      → Appends before after j (Deliver message) → StampedStep size before after

-- the lists come about by steps, in any order, from empty lists
pub data StampedRun (size : ℕ) : StampedLists → Type 0 where
  Start : (lists : StampedLists) → ((k : ℕ) → lists k ≡ []) → StampedRun size lists
  Then : (before after : StampedLists) → StampedRun size before → StampedStep size before after → StampedRun size after

-- the time stands with the message: with its cast, or with a delivery of it
pub record IsTimeOf (lists : StampedLists) (m : Name) (time : List ℕ) : Type 0 where
  pub member : ℕ
  pub index : ℕ
  pub event : Event
  pub stands : slice_get (lists member) index ≡ Some event
  pub named : (message_of event).name ≡ m
  pub timed : (message_of event).time ≡ time
