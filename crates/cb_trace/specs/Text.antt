-- Which text is the trace of which histories.
use Rattle.std.specs.Prelude.{ℕ, List, [], ◌∷◌, ◌++◌, codes, length, map}
use Rattle.std.specs.List.{flat_map}
use Rattle.std.specs.Fmt.{decimal}
use Rattle.cb_history.specs.Group.{Parameters}
use Rattle.cb_history.specs.Facts.{EntryFields, entry_fields}
use Rattle.cb_history.specs.declared.history.History.{History}
use Rattle.cb_lines.specs.Text.{line_of, group_line, entry_line}

-- a history, without where it lies in memory
pub record HistoryFields : Type 0 where
  pub group : Parameters
  pub me : ℕ
  pub entries : List EntryFields

abbrev pub history_fields : History → HistoryFields
history_fields h = record { group = h.group; me = h.me; entries = map entry_fields h.entries.items }

-- ---- the words of each line

-- a member, and how many entries it has
abbrev pub member_words : ℕ → ℕ → List (List ℕ)
member_words me count = codes "member" ∷ decimal me ∷ codes "entries" ∷ decimal count ∷ []

-- ---- the lines

unfoldable pub member_line : ℕ → ℕ → List ℕ
member_line me count = line_of (member_words me count)

abbrev pub last_line : List ℕ
last_line = codes "end"

-- those of a member: its own, and one for each entry
abbrev pub history_lines : HistoryFields → List (List ℕ)
history_lines h = member_line h.me (length h.entries) ∷ map entry_line h.entries

-- those of a trace: the group, its members' one after another, and the last
abbrev pub trace_lines : Parameters → List HistoryFields → List (List ℕ)
trace_lines group histories = group_line group ∷ flat_map history_lines histories ++ last_line ∷ []
