-- What is held of a member: which histories it may have, and what of them is there to be read.
use Rattle.std.specs.Prelude.{◌≡◌, ◌≢◌, ℕ, ◌≤◌, Bool, true, false, ◌==◌, List, [], length, map, refl, if◌then◌else◌}
use Rattle.std.specs.Coded.{Coded, code_by, coded×, coded_bool, coded_list, coded_ℕ}
use Rattle.cb_times.specs.declared.name.Name.{Name}
use Rattle.cb_delay.specs.declared.message.Event.{Event}
use Rattle.cb_delay.specs.declared.message.Event.TheVariants.{Cast, Deliver}
use Rattle.cb_delay.specs.declared.message.Message.{Message}
use Rattle.cb_delay.specs.Message.{message_of}
use Rattle.cb_delay.specs.Queue.{message_code, name_code}
use Rattle.cb_history.specs.Events.{events}
use Rattle.cb_history.specs.Group.{Identity}
use Rattle.cb_history.specs.declared.history.Entry.{Entry}
use Rattle.cb_history.specs.Facts.{EntryFields, CastEntry, ArriveEntry, TickEntry, entry_fields, facts_of}
use Rattle.cb_history.specs.Legal.{room_for_one}
use Rattle.cb_history.specs.State.{MemberState}
use Rattle.cb_member.specs.CoreMember.{Core, StandsFor, core_code}

-- A member, how many entries its history may have, and what is there to be read: its history and all events. One that may have none
-- keeps no history, and there is what its last call added.
pub record Kept : Type 0 where
  pub core : Core
  pub limit : ℕ
  pub entries : List EntryFields
  pub events : List Event

-- as it lies in memory
abbrev pub kept_of : Core → ℕ → List Entry → List Event → Kept
kept_of core limit entries events = record { core = core; limit = limit; entries = map entry_fields entries; events = events }

-- ---- the histories

abbrev pub seat_of : Kept → Identity
seat_of kept = kept.core.seat

-- how many entries a history may have, where it has these; without one there is always room for one more
abbrev pub limit_for : ℕ → List EntryFields → ℕ
limit_for limit entries = if limit == 0 then room_for_one entries else limit

abbrev pub limit_of : Kept → List EntryFields → ℕ
limit_of kept entries = limit_for kept.limit entries

-- these may be the entries of its history; where it is kept, they are
pub record Stands (kept : Kept) (entries : List EntryFields) : Type 0 where
  pub stands : StandsFor entries kept.core
  pub are_kept : kept.limit ≢ 0 → entries ≡ kept.entries

-- the member with this history
abbrev pub state_with : Kept → List EntryFields → MemberState
state_with kept entries = record { seat = seat_of kept; limit = limit_of kept entries; entries = entries }

-- so it is of the member with each history that it may have
abbrev pub OnEach : Kept → (MemberState → Type 0) → Type 0
OnEach kept P = (entries : List EntryFields) → Stands kept entries → P (state_with kept entries)

-- a history that is kept is one that the member may have, with its events, and is not longer than it may be
pub record IsHistory (kept : Kept) : Type 0 where
  pub stands : StandsFor kept.entries kept.core
  pub events_are : kept.events ≡ events (seat_of kept) (facts_of kept.entries)
  pub few : length kept.entries ≤ kept.limit

abbrev pub IsKept : Kept → Type 0
IsKept kept = kept.limit ≢ 0 → IsHistory kept

-- ---- what is there to be read

abbrev pub events_of : Kept → List Event
events_of kept = kept.events

abbrev pub entries_of : Kept → List EntryFields
entries_of kept = kept.entries

-- those of before a call that can't be read any more: without a history all of them
abbrev pub gone : {X : Type 0} → Kept → List X → List X
gone kept before = if kept.limit == 0 then before else []

-- ---- how it is stored: its fields as pairs

abbrev pub is_own : Event → Bool
is_own (Cast message) = true
is_own (Deliver message) = false

abbrev pub event_in : Bool × Message → Event
event_in p = if p.0 then Cast p.1 else Deliver p.1

pub event_again : (e : Event) → event_in (is_own e, message_of e) ≡ e
event_again (Cast message) = refl
event_again (Deliver message) = refl

abbrev pub event_code : Coded Event
event_code = code_by (Bool × Message) (coded× coded_bool message_code) (λ e. (is_own e, message_of e)) event_in event_again

abbrev pub entry_row : EntryFields → ℕ × (List ℕ × List Name)
entry_row (CastEntry frame) = (0, (frame, []))
entry_row (ArriveEntry frame delivered) = (1, (frame, delivered))
entry_row (TickEntry status) = (2, (status, []))

abbrev pub entry_in : ℕ × (List ℕ × List Name) → EntryFields
entry_in p = if p.0 == 0 then CastEntry p.1.0 else if p.0 == 1 then ArriveEntry p.1.0 p.1.1 else TickEntry p.1.0

pub entry_again : (e : EntryFields) → entry_in (entry_row e) ≡ e
entry_again (CastEntry frame) = refl
entry_again (ArriveEntry frame delivered) = refl
entry_again (TickEntry status) = refl

abbrev pub entry_code : Coded EntryFields
entry_code = code_by (ℕ × (List ℕ × List Name)) (coded× coded_ℕ (coded× (coded_list coded_ℕ) (coded_list name_code))) entry_row entry_in entry_again

abbrev pub kept_code : Coded Kept
kept_code =
    code_by (Core × (ℕ × (List EntryFields × List Event))) (coded× core_code (coded× coded_ℕ (coded× (coded_list entry_code) (coded_list event_code))))
    (λ k. (k.core, (k.limit, (k.entries, k.events)))) (λ p. record { core = p.0; limit = p.1.0; entries = p.1.1.0; events = p.1.1.1 }) (λ _. refl)
