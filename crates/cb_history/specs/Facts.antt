-- What the entries of a history say. Everything else about a member is a function of these facts.
use Rattle.std.specs.Prelude.{ℕ, List, [], ◌∷◌, Result, Ok, Err, Bool, ◌&&◌, ◌==◌, ◌+◌, ◌-◌}
use Rattle.std.specs.List.{flat_map, list_any, range_with_len}
use Rattle.cb_times.specs.declared.name.Name.{Name}
use Rattle.cb_frames.specs.declared.fault.FrameFault.{FrameFault}
use Rattle.cb_frames.specs.Fields.{CastFields, StatusFields, FrameFields, CastFrame, StatusFrame, RequestFrame, HelpFrame, Carried, messages_of}
use Rattle.cb_history.specs.Read.{frame_read}
use Rattle.cb_history.specs.declared.history.Entry.{Entry}
use Rattle.cb_history.specs.declared.history.Entry.TheVariants as entries

-- an entry, without where it lies in memory
pub data EntryFields : Type 0 where
  CastEntry : List ℕ → EntryFields
  ArriveEntry : List ℕ → List Name → EntryFields
  TickEntry : List ℕ → EntryFields

abbrev pub entry_fields : Entry → EntryFields
entry_fields (entries.Cast frame) = CastEntry frame
entry_fields (entries.Arrive frame delivered) = ArriveEntry frame delivered.items
entry_fields (entries.Tick status) = TickEntry status

-- an own cast, a received cast or status of another, and an own status that was sent
pub data Fact : Type 0 where
  OwnCast : CastFields → Fact
  CastReceived : CastFields → Fact
  StatusReceived : StatusFields → Fact
  OwnStatus : StatusFields → Fact

abbrev pub cast_said : Result FrameFields FrameFault → List Fact
cast_said (Ok (CastFrame c)) = OwnCast c ∷ []
cast_said (Ok (StatusFrame s)) = []
cast_said (Ok (RequestFrame r)) = []
cast_said (Ok (HelpFrame h)) = []
cast_said (Err fault) = []

abbrev pub arrival_said : Result FrameFields FrameFault → List Fact
arrival_said (Ok (CastFrame c)) = CastReceived c ∷ []
arrival_said (Ok (StatusFrame s)) = StatusReceived s ∷ []
arrival_said (Ok (RequestFrame r)) = []
arrival_said (Ok (HelpFrame h)) = []
arrival_said (Err fault) = []

abbrev pub status_said : Result FrameFields FrameFault → List Fact
status_said (Ok (StatusFrame s)) = OwnStatus s ∷ []
status_said (Ok (CastFrame c)) = []
status_said (Ok (RequestFrame r)) = []
status_said (Ok (HelpFrame h)) = []
status_said (Err fault) = []

-- what an entry says, read from its bytes; an entry whose bytes can't stand there says nothing
abbrev pub said_by : EntryFields → List Fact
said_by (CastEntry frame) = cast_said (frame_read frame)
said_by (ArriveEntry frame delivered) = arrival_said (frame_read frame)
said_by (TickEntry status) = status_said (frame_read status)

abbrev pub facts_of : List EntryFields → List Fact
facts_of entries = flat_map said_by entries

-- ---- the casts among the facts

abbrev pub cast_in : Fact → List CastFields
cast_in (OwnCast c) = c ∷ []
cast_in (CastReceived c) = c ∷ []
cast_in (StatusReceived s) = []
cast_in (OwnStatus s) = []

abbrev pub casts_in : List Fact → List CastFields
casts_in facts = flat_map cast_in facts

-- the messages of all casts
abbrev pub messages_in : List CastFields → List Carried
messages_in casts = flat_map messages_of casts

-- some cast carries message `number` of the sender
abbrev pub is_there : List CastFields → ℕ → ℕ → Bool
is_there casts sender number = list_any (λ m. m.sender == sender && m.number == number) (messages_in casts)

-- the numbers after `low` up to `high`
abbrev pub numbers_between : ℕ → ℕ → List ℕ
numbers_between low high = range_with_len (low + 1) (high - low)
