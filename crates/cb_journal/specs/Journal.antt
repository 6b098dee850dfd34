-- The text of a journal.
use Rattle.std.specs.Prelude.{◌≡◌, ℕ, List, [], ◌∷◌, ◌++◌, codes, map}
use Rattle.std.specs.List.{AllByRecursion, Contains}
use Rattle.std.specs.Fmt.{decimal}
use Rattle.cb_history.specs.Group.{Identity, IsIdentity}
use Rattle.cb_history.specs.Facts.{EntryFields}
use Rattle.cb_lines.specs.Text.{group_words, entry_line, line_of, line_feed, text_of_lines}
use Rattle.cb_lines.specs.Bounds.{IsEntry}

-- the group, and which of its members it is
abbrev pub head_words : Identity → List (List ℕ)
head_words seat = group_words seat.group ++ codes "member" ∷ decimal seat.me ∷ []

unfoldable pub head_line : Identity → List ℕ
head_line seat = line_of (head_words seat)

-- the head, and a line for each entry
abbrev pub journal_lines : Identity → List EntryFields → List (List ℕ)
journal_lines seat entries = head_line seat ∷ map entry_line entries

unfoldable pub journal_text : Identity → List EntryFields → List ℕ
journal_text seat entries = text_of_lines (journal_lines seat entries)

-- a member of a group, and entries that have a line
pub record HaveLines (seat : Identity) (entries : List EntryFields) : Type 0 where
  pub seat_is : IsIdentity seat
  pub each : AllByRecursion IsEntry entries

-- bytes of a line that was not written to its end
abbrev pub IsTorn : List ℕ → Type 0
IsTorn torn = ¬ Contains torn line_feed

-- The text is the journal of this member with these entries, and behind it stand bytes of one more line at most.
pub record IsJournal (text : List ℕ) (seat : Identity) (entries : List EntryFields) (torn : List ℕ) : Type 0 where
  pub have_lines : HaveLines seat entries
  pub parts : text ≡ journal_text seat entries ++ torn
  pub torn_is : IsTorn torn
