-- What is answered to received bytes, and what is made for that before anything changes.
use Rattle.std.specs.Prelude.{◌≡◌, ℕ, ◌≤◌, true, false, List, [], ◌∷◌, ◌++◌, length, map, Some, Ok}
use Rattle.cb_times.specs.declared.name.Name.{Name}
use Rattle.cb_delay.specs.declared.message.Event.{Event}
use Rattle.cb_delay.specs.declared.message.Message.{Message}
use Rattle.cb_history.specs.declared.answer.Outgoing.{Outgoing}
use Rattle.cb_history.specs.Answers.{ArrivalSays, Accepted, Repeat}
use Rattle.cb_history.specs.Facts.{ArriveEntry, entry_fields}
use Rattle.cb_history.specs.Legal.{ToTake}
use Rattle.cb_history.specs.State.{MemberState, answer_to_arrival, state_after}
use Rattle.cb_history.specs.declared.history.Entry.{Entry}
use Rattle.cb_history.specs.declared.history.Entry.TheVariants as entries
use Rattle.cb_member.specs.declared.wanted.Asked.{Asked}
use Rattle.cb_member.specs.declared.received.Received.{Received}
use Rattle.cb_member.specs.declared.received.Received.TheVariants as received
use Rattle.cb_member.specs.Asked.{joins_entries, joins_twice, with_entry}
use Rattle.cb_member.specs.Knowledge.{delivered_by}

-- ---- what is answered

-- the names of what is delivered by these events
abbrev pub names_of : List Event → List Name
names_of events = map (λ m. m.name) (delivered_by events)

-- what an answer has delivered, and what it has to be sent
abbrev pub deliveries_in : ArrivalSays → List Message
deliveries_in (Accepted deliveries changed out) = deliveries
deliveries_in Repeat = []

abbrev pub sent_by : ArrivalSays → List Outgoing
sent_by (Accepted deliveries changed out) = out
sent_by Repeat = []

-- what the answer says, where these messages are delivered
abbrev pub received_says : Received → List Message → ArrivalSays
received_says (received.Accepted delivered changed out) messages = Accepted messages changed out.items
received_says received.Repeat messages = Repeat

-- and how many it says
abbrev pub count_said : Received → ℕ
count_said (received.Accepted delivered changed out) = delivered
count_said received.Repeat = 0

-- received bytes were taken, or were a repeat, and the answer says what the definition does; the deliveries are the last so many events
pub record HasReceivedFrame (old new : MemberState) (bytes : List ℕ) (r : Received) : Type 0 where
  pub says : ArrivalSays
  pub answer : answer_to_arrival old bytes ≡ Ok says
  pub said : received_says r (deliveries_in says) ≡ says
  pub count : count_said r ≡ length (deliveries_in says)
  pub after : new ≡ state_after old (ToTake bytes)

-- for a caller who asks only for what is to be sent
pub record HasTakenToSend (old new : MemberState) (bytes : List ℕ) (out : List Outgoing) : Type 0 where
  pub says : ArrivalSays
  pub answer : answer_to_arrival old bytes ≡ Ok says
  pub sends : out ≡ sent_by says
  pub after : new ≡ state_after old (ToTake bytes)

-- ---- entries that are made

-- an entry of these bytes without names, with room for so many
abbrev pub IsOpen : List ℕ → ℕ → Entry → Type 0
IsOpen bytes room (entries.Arrive frame delivered) = (frame ≡ bytes) × (delivered.items ≡ []) × (room ≤ delivered.capacity)
IsOpen bytes room (entries.Cast frame) = true ≡ false
IsOpen bytes room (entries.Tick status) = true ≡ false

-- as many of them as are asked for stand behind these
abbrev pub AreOpen : Asked → List ℕ → ℕ → List Entry → Type 0
AreOpen asked bytes room [] = joins_entries asked ≡ false
AreOpen asked bytes room (e ∷ []) = (joins_entries asked ≡ true) × (joins_twice asked ≡ false) × IsOpen bytes room e
AreOpen asked bytes room (e ∷ f ∷ []) = (joins_entries asked ≡ true) × (joins_twice asked ≡ true) × IsOpen bytes room e × IsOpen bytes room f
AreOpen asked bytes room (e ∷ f ∷ g ∷ es) = true ≡ false

pub record HasOpened (asked : Asked) (bytes : List ℕ) (room : ℕ) (started entries : List Entry) : Type 0 where
  pub opened : List Entry
  pub behind : entries ≡ started ++ opened
  pub are : AreOpen asked bytes room opened

-- this one stands behind the first so many
pub record IsOpenAt (place : ℕ) (bytes : List ℕ) (room : ℕ) (before after : List Entry) (entry : Entry) (entries : List Entry) : Type 0 where
  pub at : entries ≡ before ++ entry ∷ after
  pub place_is : length before ≡ place
  pub is : IsOpen bytes room entry

-- and has got these names
pub record HasNamedAt (bytes : List ℕ) (names : List Name) (before after entries : List Entry) : Type 0 where
  pub named : Entry
  pub fields : entry_fields named ≡ ArriveEntry bytes names
  pub at : entries ≡ before ++ named ∷ after

-- so all of them have
abbrev pub HasNamed : Asked → List ℕ → List Name → List Entry → List Entry → Type 0
HasNamed asked bytes names started entries = map entry_fields entries ≡ with_entry asked (map entry_fields started) (Some (ArriveEntry bytes names))
