-- Histories that a member can have.
use Rattle.std.specs.Prelude.{◌≡◌, ℕ, ◌+◌, ◌<◌, ◌≤◌, Bool, List, [], ◌∷◌, ◌++◌, length, map, Option, Some, None, Result, Ok, Err, if◌then◌else◌}
use Rattle.cb_frames.specs.Fields.{Load, load_bytes, CastFields, StatusFrame, CastFrame}
use Rattle.cb_frames.specs.Text.{text_of}
use Rattle.cb_frames.specs.Laws.{IsBytes}
use Rattle.cb_history.specs.declared.history.TheConstants.{LONGEST_HISTORY}
use Rattle.cb_history.specs.declared.answer.ArriveRefusal.{ArriveRefusal}
use Rattle.cb_history.specs.declared.answer.TickRefusal.{TickRefusal}
use Rattle.cb_history.specs.declared.answer.Outgoing.{Outgoing}
use Rattle.cb_history.specs.CastFault.{CastFault}
use Rattle.cb_history.specs.Group.{Identity, AreParameters}
use Rattle.cb_history.specs.Facts.{EntryFields, CastEntry, ArriveEntry, TickEntry, facts_of}
use Rattle.cb_history.specs.Answers.{cast_answer, arrive_answer, tick_answer, status_of, ArrivalSays, Accepted, Repeat}

-- the most entries that a history can have
abbrev pub longest_history : ℕ
longest_history = LONGEST_HISTORY

-- what is asked of a member: to cast a load, to take a received frame, to tick, to ask a third member for what it lacks of a sender
pub data Call : Type 0 where
  ToCast : Load → Call
  ToTake : List ℕ → Call
  ToTick : Call
  ToHelp : ℕ → Call

-- what is cast and what is received are bytes
abbrev pub OfBytes : Call → Type 0
OfBytes (ToCast load) = IsBytes (load_bytes load)
OfBytes (ToTake bytes) = IsBytes bytes
OfBytes ToTick = Unit {0}
OfBytes (ToHelp i) = Unit {0}

-- the entry that an answer adds, where it adds one
abbrev pub cast_entry : Result CastFields CastFault → Option EntryFields
cast_entry (Ok c) = Some (CastEntry (text_of (CastFrame c)))
cast_entry (Err fault) = None

abbrev pub arrive_entry : List ℕ → Result ArrivalSays ArriveRefusal → Option EntryFields
arrive_entry bytes (Ok (Accepted deliveries changed out)) = if changed then Some (ArriveEntry bytes (map (λ m. m.name) deliveries)) else None
arrive_entry bytes (Ok Repeat) = None
arrive_entry bytes (Err refusal) = None

abbrev pub tick_entry : List ℕ → Result (Bool × List Outgoing) TickRefusal → Option EntryFields
tick_entry status (Ok t) = if t.0 then Some (TickEntry status) else None
tick_entry status (Err refusal) = None

abbrev pub entry_of : Identity → ℕ → List EntryFields → Call → Option EntryFields
entry_of seat limit entries (ToCast load) = cast_entry (cast_answer seat limit entries load)
entry_of seat limit entries (ToTake bytes) = arrive_entry bytes (arrive_answer seat limit entries bytes)
entry_of seat limit entries ToTick = tick_entry (text_of (StatusFrame (status_of seat (facts_of entries)))) (tick_answer seat limit entries)
entry_of seat limit entries (ToHelp i) = None

-- the history after a call
abbrev pub and_entry : List EntryFields → Option EntryFields → List EntryFields
and_entry entries None = entries
and_entry entries (Some e) = entries ++ e ∷ []

abbrev pub history_after : Identity → ℕ → List EntryFields → Call → List EntryFields
history_after seat limit entries call = and_entry entries (entry_of seat limit entries call)

-- the least limit that leaves room for one entry more; with any greater one a call adds the same entry
abbrev pub room_for_one : List EntryFields → ℕ
room_for_one entries = length entries + 1

-- Each entry is the one that some call adds to the entries before it, however many these are.
pub data AreLegal (seat : Identity) : List EntryFields → Type 0 where
  NoEntries : AreLegal seat []
  OneMore : (entries : List EntryFields) (call : Call) (e : EntryFields) → AreLegal seat entries → OfBytes call → entry_of seat (room_for_one entries) entries call ≡ Some e → AreLegal seat (entries ++ e ∷ [])

-- what a member of a group may have entered, without a limit
pub record AreEntriesOf (seat : Identity) (entries : List EntryFields) : Type 0 where
  pub group : AreParameters seat.group
  pub member : seat.me < seat.group.size
  pub entries_are : AreLegal seat entries

-- a history of a member of a group: such entries, and not too many
pub record IsLegal (seat : Identity) (entries : List EntryFields) : Type 0 where
  pub group : AreParameters seat.group
  pub member : seat.me < seat.group.size
  pub entries_are : AreLegal seat entries
  pub few : length entries ≤ longest_history
