-- Where a reader is in a trace that it reads line by line.
use Rattle.std.specs.Prelude.{◌≡◌, ℕ, ◌+◌, ◌<◌, ◌≤◌, List, [], ◌∷◌, ◌++◌, ◌⊎◌, length, map, Result, Ok, Err, Vec}
use Rattle.std.specs.declared.alloc.Global.{Global}
use Rattle.std.specs.List.{flat_map, AllByRecursion}
use Rattle.cb_times.specs.declared.group.TheConstants.{MOST_MEMBERS}
use Rattle.cb_history.specs.Group.{Parameters, AreParameters}
use Rattle.cb_history.specs.Facts.{EntryFields, entry_fields}
use Rattle.cb_history.specs.declared.history.History.{History}
use Rattle.cb_trace.specs.declared.fault.TraceFault.{TraceFault}
use Rattle.cb_trace.specs.declared.fault.TraceFault.TheVariants.{BadLine, NoMemory}
use Rattle.cb_trace.specs.declared.reading.Reading.{Reading}
use Rattle.cb_trace.specs.declared.reading.Place.{Place}
use Rattle.cb_trace.specs.declared.reading.Place.TheVariants as places
use Rattle.cb_trace.specs.Text.{HistoryFields, history_fields, history_lines, member_line, last_line, trace_lines}
use Rattle.cb_lines.specs.Text.{group_line, entry_line, text_of_lines}
use Rattle.cb_trace.specs.Bounds.{IsMember, IsHistory, AreHistories, IsTrace, IsFirstBadLine}
use Rattle.cb_lines.specs.Bounds.{IsEntry}

-- behind whole members of a group; within the entries of a member, of which so many are still to come; at the end
pub data Progress : Type 0 where
  AtMember : Parameters → List HistoryFields → Progress
  AtEntry : Parameters → List HistoryFields → ℕ → List EntryFields → ℕ → Progress
  AtEnd : Parameters → List HistoryFields → Progress

abbrev pub progress_at : Parameters → Place → List HistoryFields → List EntryFields → Progress
progress_at group places.Member histories entries = AtMember group histories
progress_at group (places.Entry me left) histories entries = AtEntry group histories me entries left
progress_at group places.End histories entries = AtEnd group histories

abbrev pub IsAtEnd : Place → Type 0
IsAtEnd places.Member = ⊥
IsAtEnd (places.Entry me left) = ⊥
IsAtEnd places.End = Unit {0}

abbrev pub progress_of : Reading → Progress
progress_of r = progress_at r.group r.place (map history_fields r.histories.items) (map entry_fields r.entries.items)

-- the lines so far
unfoldable pub lines_to : Progress → List (List ℕ)
lines_to (AtMember group histories) = group_line group ∷ flat_map history_lines histories
lines_to (AtEntry group histories me entries left) =
    group_line group ∷ flat_map history_lines histories
    ++ member_line me (length entries + left) ∷ map entry_line entries
lines_to (AtEnd group histories) = trace_lines group histories

-- whole members of a group
pub record AreWhole (group : Parameters) (histories : List HistoryFields) : Type 0 where
  pub parameters : AreParameters group
  pub few : length histories ≤ MOST_MEMBERS
  pub each : AllByRecursion (IsHistory group) histories

-- a member behind them, of which so many entries are still to come
pub record IsBegun (group : Parameters) (histories : List HistoryFields) (me : ℕ) (entries : List EntryFields) (left : ℕ) : Type 0 where
  pub whole : AreWhole group histories
  pub room : length histories < MOST_MEMBERS
  pub member : IsMember me (length entries + left)
  pub each : AllByRecursion IsEntry entries

-- what was read is within the bounds
abbrev pub KeepsBounds : Progress → Type 0
KeepsBounds (AtMember group histories) = AreWhole group histories
KeepsBounds (AtEntry group histories me entries left) = IsBegun group histories me entries left × (1 ≤ left)
KeepsBounds (AtEnd group histories) = AreHistories group histories

-- the line can stand next
abbrev pub CanFollow : Progress → List ℕ → Type 0
CanFollow (AtMember group histories) line =
    ((line ≡ last_line) × (1 ≤ length histories))
    ⊎ ((me count : ℕ) × IsMember me count × (length histories < MOST_MEMBERS) × (line ≡ member_line me count))
CanFollow (AtEntry group histories me entries left) line = (entry : EntryFields) × IsEntry entry × (line ≡ entry_line entry)
CanFollow (AtEnd group histories) line = ⊥

-- the reader has gone on by this line
pub record GoesOn (before now : Progress) (line : List ℕ) : Type 0 where
  pub bounds : KeepsBounds now
  pub lines : lines_to now ≡ lines_to before ++ line ∷ []

-- it has gone on by no line
pub record Stays (before now : Progress) : Type 0 where
  pub bounds : KeepsBounds now
  pub lines : lines_to now ≡ lines_to before

-- The reader has come to this place of the text, and the next line has this number.
pub record ReadTo (text rest : List ℕ) (p : Progress) (number : ℕ) : Type 0 where
  pub parts : text ≡ text_of_lines (lines_to p) ++ rest
  pub bounds : KeepsBounds p
  pub place : number ≡ length (lines_to p) + 1

-- what is answered for a text: the histories whose trace it is, or its first bad line; where memory ran out, nothing is known
abbrev pub Reads : List ℕ → Result (Vec History Global) TraceFault → Type 0
Reads text (Ok histories) = IsTrace (map history_fields histories.items) text
Reads text (Err (BadLine line)) = IsFirstBadLine text line
Reads text (Err NoMemory) = Unit {0}

-- these histories are answered, unless memory ran out
abbrev pub Gives : List HistoryFields → Result (Vec History Global) TraceFault → Type 0
Gives these (Ok histories) = map history_fields histories.items ≡ these
Gives these (Err (BadLine line)) = ⊥
Gives these (Err NoMemory) = Unit {0}
