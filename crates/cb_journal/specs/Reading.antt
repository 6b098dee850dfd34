-- What is answered for the bytes of a journal.
use Rattle.std.specs.Prelude.{◌≡◌, ℕ, ◌+◌, List, [], ◌∷◌, ◌++◌, length, map, Result, Ok, Err}
use Rattle.std.specs.List.{Contains}
use Rattle.cb_history.specs.Group.{Identity}
use Rattle.cb_history.specs.Facts.{EntryFields, entry_fields}
use Rattle.cb_history.specs.LegalHistory.{seat_in}
use Rattle.cb_lines.specs.Text.{text_of_lines, line_feed, IsCut}
use Rattle.cb_lines.specs.declared.fault.LineFault.{LineFault}
use Rattle.cb_lines.specs.declared.fault.LineFault.TheVariants as lines
use Rattle.cb_journal.specs.declared.fault.ReadFault.{ReadFault}
use Rattle.cb_journal.specs.declared.fault.ReadFault.TheVariants.{NoHead, BadLine, NoMemory}
use Rattle.cb_journal.specs.declared.reading.Journal.{Journal}
use Rattle.cb_journal.specs.Journal.{journal_lines, journal_text, HaveLines, IsJournal}

abbrev pub entries_in : Journal → List EntryFields
entries_in journal = map entry_fields journal.history.entries.items

-- the text is this journal's, and so long are its whole lines and what stands behind them
pub record IsRead (text : List ℕ) (journal : Journal) : Type 0 where
  pub torn : List ℕ
  pub is : IsJournal text (seat_in journal.history) (entries_in journal) torn
  pub read_is : journal.read ≡ length (journal_text (seat_in journal.history) (entries_in journal))
  pub torn_is : journal.torn ≡ length torn

-- some journal begins with these lines
abbrev pub Begins : List (List ℕ) → Type 0
Begins lines = (seat : Identity) × (entries : List EntryFields) × (more : List (List ℕ))
    × HaveLines seat entries × (journal_lines seat entries ≡ lines ++ more)

-- The line of this number is whole, and the first that is not what must stand there: a journal begins with the lines before it, and none
-- goes on with this one.
pub record IsFirstBadLine (text : List ℕ) (number : ℕ) : Type 0 where
  pub good : List (List ℕ)
  pub line : List ℕ
  pub after : List ℕ
  pub rest : List ℕ
  pub parts : text ≡ text_of_lines good ++ rest
  pub cut : IsCut rest line after
  pub place : number ≡ length good + 1
  pub begins : Begins good
  pub bad : ¬ Begins (good ++ line ∷ [])

-- what is answered: the journal that the text is, or that its head is not whole, or its first bad line; where memory ran out, nothing is
-- known
abbrev pub Reads : List ℕ → Result Journal ReadFault → Type 0
Reads text (Ok journal) = IsRead text journal
Reads text (Err NoHead) = ¬ Contains text line_feed
Reads text (Err (BadLine number)) = IsFirstBadLine text number
Reads text (Err NoMemory) = Unit {0}

-- the member and its entries, with the lengths of their text and of what stands behind it
pub record IsJournalOf (seat : Identity) (entries : List EntryFields) (torn : List ℕ) (journal : Journal) : Type 0 where
  pub seat_is : seat_in journal.history ≡ seat
  pub entries_are : entries_in journal ≡ entries
  pub read_is : journal.read ≡ length (journal_text seat entries)
  pub torn_is : journal.torn ≡ length torn

-- these are answered, unless memory ran out
abbrev pub Gives : Identity → List EntryFields → List ℕ → Result Journal ReadFault → Type 0
Gives seat entries torn (Ok journal) = IsJournalOf seat entries torn journal
Gives seat entries torn (Err NoHead) = ⊥
Gives seat entries torn (Err (BadLine number)) = ⊥
Gives seat entries torn (Err NoMemory) = Unit {0}

-- the fault of a text in which this line has that fault
abbrev pub fault_at : LineFault → ℕ → ReadFault
fault_at lines.NoLine line = BadLine line
fault_at lines.NoMemory line = NoMemory

-- The reader has come to this place of the text, and the next line has this number.
pub record ReadTo (text rest : List ℕ) (seat : Identity) (entries : List EntryFields) (number : ℕ) : Type 0 where
  pub parts : text ≡ journal_text seat entries ++ rest
  pub have_lines : HaveLines seat entries
  pub place : number ≡ length entries + 2
