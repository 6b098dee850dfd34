-- What is shown of an entry, of names, of ranges and of what waits.
use Rattle.std.specs.Prelude.{◌≡◌, ℕ, true, false, List, [], length, map, Option, Some, None}
use Rattle.cb_times.specs.declared.name.Name as times
use Rattle.cb_frames.specs.declared.frame.Range as frames
use Rattle.cb_history.specs.Facts.{EntryFields, CastEntry, ArriveEntry, TickEntry}
use Rattle.cb_handle.specs.declared.rows.TheConstants.{CAST, ARRIVE, TICK}
use Rattle.cb_member.specs.declared.readings.Awaited.{Awaited}
use Rattle.cb_member.specs.declared.readings.Delayed as member
use Rattle.cb_handle.specs.declared.rows.Delayed.{Delayed}
use Rattle.cb_handle.specs.declared.rows.EntryHead.{EntryHead}
use Rattle.cb_handle.specs.declared.rows.Name.{Name}
use Rattle.cb_handle.specs.declared.rows.Range.{Range}
use Rattle.cb_handle.specs.Copies.{copied}

abbrev pub kind_in : EntryFields → ℕ
kind_in (CastEntry frame) = CAST
kind_in (ArriveEntry frame delivered) = ARRIVE
kind_in (TickEntry status) = TICK

abbrev pub frame_in : EntryFields → List ℕ
frame_in (CastEntry frame) = frame
frame_in (ArriveEntry frame delivered) = frame
frame_in (TickEntry status) = status

abbrev pub names_in : EntryFields → List times.Name
names_in (CastEntry frame) = []
names_in (ArriveEntry frame delivered) = delivered
names_in (TickEntry status) = []

abbrev pub entry_head : EntryFields → EntryHead
entry_head entry = record { kind = kind_in entry; length = length (frame_in entry); delivered = length (names_in entry) }

abbrev pub name_row : times.Name → Name
name_row name = record { sender = name.sender; number = name.number }

abbrev pub range_row : frames.Range → Range
range_row range = record { first = range.first; last = range.last }

-- a message that waits, by its number, and the messages that it waits for
abbrev pub awaited_row : ℕ → Option Awaited → Delayed
awaited_row number None = record { is_ready = true; number = number; sender = 0; first = 0; last = 0 }
awaited_row number (Some a) = record { is_ready = false; number = number; sender = a.sender; first = a.numbers.first; last = a.numbers.last }

abbrev pub delayed_row : member.Delayed → Delayed
delayed_row d = awaited_row d.name.number d.awaits

-- one entry: its head, and its frame and the names of what it delivered over what was there
pub record ShowsEntry (entry : EntryFields) (head : EntryHead) (frame new_frame : List ℕ) (delivered new_delivered : List Name) : Type 0 where
  pub head_is : head ≡ entry_head entry
  pub frame_is : new_frame ≡ copied (frame_in entry) frame
  pub delivered_are : new_delivered ≡ copied (map name_row (names_in entry)) delivered
