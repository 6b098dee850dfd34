-- The call that made an entry, read off the entry: hence a history is checked by making its calls again.
use Rattle.std.specs.Prelude.{◌≡◌, ◌↔◌, ℕ, ◌≤◌, List, [], ◌∷◌, ◌++◌, Some, Result, Ok, Err}
use Rattle.std.specs.List.{AllByRecursion}
use Rattle.cb_frames.specs.declared.fault.FrameFault.{FrameFault}
use Rattle.cb_frames.specs.Fields.{Load, One, FrameFields, CastFrame, StatusFrame, RequestFrame, HelpFrame}
use Rattle.cb_history.specs.Read.{frame_read}
use Rattle.cb_frames.specs.Laws.{IsBytes}
use Rattle.cb_history.specs.Group.{Identity, IsIdentity}
use Rattle.cb_history.specs.Facts.{EntryFields, CastEntry, ArriveEntry, TickEntry}
use Rattle.cb_history.specs.Legal.{longest_history, Call, ToCast, ToTake, ToTick, OfBytes, entry_of, IsLegal}

-- what a cast frame carries
abbrev pub load_said : Result FrameFields FrameFault → Load
load_said (Ok (CastFrame c)) = c.load
load_said (Ok (StatusFrame s)) = One []
load_said (Ok (RequestFrame r)) = One []
load_said (Ok (HelpFrame h)) = One []
load_said (Err fault) = One []

-- the call that an entry determines: a cast of what its frame carries, an arrival of its bytes, or a tick
abbrev pub call_of : EntryFields → Call
call_of (CastEntry frame) = ToCast (load_said (frame_read frame))
call_of (ArriveEntry frame delivered) = ToTake frame
call_of (TickEntry status) = ToTick

-- the bytes that an entry holds
abbrev pub bytes_in : EntryFields → List ℕ
bytes_in (CastEntry frame) = frame
bytes_in (ArriveEntry frame delivered) = frame
bytes_in (TickEntry status) = status

-- A call that adds an entry to a legal history, with any limit up to the greatest, is the one that the entry determines.
abbrev pub EntryTellsItsCall : Type 0
EntryTellsItsCall = (seat : Identity) (limit : ℕ) (entries : List EntryFields) (call : Call) (e : EntryFields) → limit ≤ longest_history → IsLegal seat entries → entry_of seat limit entries call ≡ Some e → call_of e ≡ call

-- an entry of bytes determines a call of bytes
abbrev pub EntriesOfBytesTellBytes : Type 0
EntriesOfBytesTellBytes = (e : EntryFields) → IsBytes (bytes_in e) → OfBytes (call_of e)

-- and the entries of a legal history are of bytes
abbrev pub LegalEntriesAreBytes : Type 0
LegalEntriesAreBytes = (seat : Identity) (entries : List EntryFields) → IsLegal seat entries → AllByRecursion (λ e. IsBytes (bytes_in e)) entries

-- the entry is of bytes, and the call that it determines adds it to these entries
abbrev pub IsAdded : Identity → List EntryFields → EntryFields → Type 0
IsAdded seat entries e = IsBytes (bytes_in e) × (entry_of seat longest_history entries (call_of e) ≡ Some e)

-- behind a legal history exactly such an entry is legal
abbrev pub OneMoreIsDecided : Type 0
OneMoreIsDecided = (seat : Identity) (entries : List EntryFields) (e : EntryFields) → IsLegal seat entries → IsLegal seat (entries ++ e ∷ []) ↔ IsAdded seat entries e

-- behind some entries each of these is added
abbrev pub AreReplayed : Identity → List EntryFields → List EntryFields → Type 0
AreReplayed seat before [] = Unit {0}
AreReplayed seat before (e ∷ entries) = IsAdded seat before e × AreReplayed seat (before ++ e ∷ []) entries

-- A history of a member of a group is legal exactly where replaying it from the start gives it again.
abbrev pub ReplayingDecides : Type 0
ReplayingDecides = (seat : Identity) (entries : List EntryFields) → IsIdentity seat → IsLegal seat entries ↔ AreReplayed seat [] entries
