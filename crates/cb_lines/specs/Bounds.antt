-- What can stand in a line.
use Rattle.std.specs.Prelude.{ℕ, ◌<◌, ◌≤◌, ◌^◌, List, length, slice_index}
use Rattle.std.specs.List.{AllByRecursion}
use Rattle.cb_times.specs.declared.group.TheConstants.{MOST_MEMBERS}
use Rattle.cb_times.specs.declared.name.Name.{Name}
use Rattle.cb_history.specs.Facts.{EntryFields, CastEntry, ArriveEntry, TickEntry}

-- a frame is bytes, at least one
pub record IsFrame (frame : List ℕ) : Type 0 where
  pub some : 1 ≤ length frame
  pub bytes : (i : ℕ) → slice_index frame i < 256

pub record IsName (name : Name) : Type 0 where
  pub sender : name.sender < MOST_MEMBERS
  pub first : 1 ≤ name.number
  pub number : name.number < 2 ^ 32

abbrev pub IsEntry : EntryFields → Type 0
IsEntry (CastEntry frame) = IsFrame frame
IsEntry (ArriveEntry frame delivered) = IsFrame frame × AllByRecursion IsName delivered
IsEntry (TickEntry status) = IsFrame status
