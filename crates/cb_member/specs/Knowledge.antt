-- What a member knows of the others.
use Rattle.std.specs.Prelude.{◌≡◌, ◌≢◌, ℕ, ◌<◌, ◌==◌, nat_lt, true, max, List, [], ◌∷◌, length, filter, map, replicate}
use Rattle.std.specs.List.{list_all}
use Rattle.cb_times.specs.Order.{field}
use Rattle.cb_delay.specs.declared.message.Event.{Event}
use Rattle.cb_delay.specs.declared.message.Event.TheVariants.{Cast, Deliver}
use Rattle.cb_delay.specs.declared.message.Message.{Message}
use Rattle.cb_frames.specs.declared.frame.Change.{Change}
use Rattle.cb_frames.specs.Fields.{StatusFields}
use Rattle.cb_frames.specs.Text.{RisesFrom}
use Rattle.cb_stability.specs.Known.{Known, count, IsUnknown}
use Rattle.cb_history.specs.Group.{Identity}
use Rattle.cb_history.specs.Facts.{Fact}
use Rattle.cb_history.specs.Known.{greatest_of, known, value_in}
use Rattle.cb_history.specs.StabilityLaws.{KnowsAcknowledged}
use Rattle.cb_member.specs.declared.knowledge.Knowledge.{Knowledge}

-- nothing was heard of, and nothing is known of any delivery
pub record IsNewKnowledge (size : ℕ) (k : Knowledge) : Type 0 where
  pub known : k.known ≡ replicate size 0
  pub acks : IsUnknown size k.acks

-- of each other member the greatest number that was heard of, and of every member how many casts of each sender it is known to have delivered
pub record KnowsFacts (seat : Identity) (facts : List Fact) (k : Knowledge) : Type 0 where
  pub fields : length k.known ≡ seat.group.size
  pub heard : (i : ℕ) → i < seat.group.size → i ≢ seat.me → field k.known i ≡ known facts i
  pub acknowledged : KnowsAcknowledged seat facts k.acks

-- the message is of another member of a group of this size, and its time is of that group
pub record HasTimeOf (me size : ℕ) (message : Message) : Type 0 where
  pub sender : message.name.sender < size
  pub other : message.name.sender ≢ me
  pub time : length message.time ≡ size

-- the messages that are delivered by these events
abbrev pub delivered_by : List Event → List Message
delivered_by [] = []
delivered_by (Deliver m ∷ events) = m ∷ delivered_by events
delivered_by (Cast m ∷ events) = delivered_by events

-- how many casts of member i the senders of these messages had delivered, where member k is the sender
abbrev pub reported_in : ℕ → List Message → ℕ → List ℕ
reported_in i messages k = map (λ m. field m.time i) (filter (λ m. m.name.sender == k) messages)

-- how many messages of i this time counts, once for each of these messages that is of i
abbrev pub reached_in : List ℕ → List Message → ℕ → List ℕ
reached_in time messages i = map (λ m. field time i) (filter (λ m. m.name.sender == i) messages)

-- Of each other member k and each sender the greatest of what was known and what the messages of k say. The member itself has as many of
-- their senders' messages as the time counts.
pub record LearnsAll (me : ℕ) (time : List ℕ) (messages : List Message) (old new : Known) : Type 0 where
  pub of_size : new.size ≡ old.size
  pub others : (k i : ℕ) → i < old.size → k ≢ me → count new k i ≡ max (count old k i) (greatest_of (reported_in i messages k))
  pub own : (i : ℕ) → count new me i ≡ max (count old me i) (greatest_of (reached_in time messages i))

-- the values of a status: of members of a group of this size, each named once, in rising order
pub record AreValuesOf (size : ℕ) (values : List Change) : Type 0 where
  pub rising : RisesFrom 0 values
  pub members : list_all (λ d. nat_lt d.field size) values ≡ true

-- each field became the greater of what it was and the value that is said of it
pub record IsRaisedBy (values : List Change) (old new : List ℕ) : Type 0 where
  pub fields : length new ≡ length old
  pub raised : (k : ℕ) → k < length old → field new k ≡ max (field old k) (value_in values k)

-- member k is known to have delivered as many casts of each sender as the values say, and nothing else has changed
pub record LearnsValues (k : ℕ) (values : List Change) (old new : Known) : Type 0 where
  pub of_size : new.size ≡ old.size
  pub said : (i : ℕ) → count new k i ≡ max (count old k i) (value_in values i)
  pub members : (m i : ℕ) → m ≢ k → count new m i ≡ count old m i

-- what a status says of the casts of each sender, and how many of them its own sender has delivered, is known now
pub record HearsStatus (s : StatusFields) (old new : Knowledge) : Type 0 where
  pub known : IsRaisedBy s.values old.known new.known
  pub acks : LearnsValues s.sender s.values old.acks new.acks
