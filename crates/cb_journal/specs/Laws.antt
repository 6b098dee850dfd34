-- What a crash leaves of a journal.
use Rattle.std.specs.Prelude.{◌≡◌, ℕ, ◌≤◌, List, [], take, length}
use Rattle.cb_history.specs.Group.{Identity}
use Rattle.cb_history.specs.Facts.{EntryFields}
use Rattle.cb_history.specs.Legal.{IsLegal}
use Rattle.cb_journal.specs.Journal.{journal_text, HaveLines, IsJournal}

-- The first k bytes of a journal are the journal of its first entries, and behind them bytes of one more line at most. No entry is lost
-- whose line lies within them.
pub record IsBeginning (seat : Identity) (entries : List EntryFields) (k : ℕ) : Type 0 where
  pub count : ℕ
  pub torn : List ℕ
  pub within : count ≤ length entries
  pub journal : IsJournal (take k (journal_text seat entries)) seat (take count entries) torn
  pub whole : (m : ℕ) → m ≤ length entries → length (journal_text seat (take m entries)) ≤ k → m ≤ count

-- each cut of a journal behind its head line is a beginning of it
abbrev pub CutsAreBeginnings : Type 0
CutsAreBeginnings = (seat : Identity) (entries : List EntryFields) (k : ℕ)
    → HaveLines seat entries → length (journal_text seat []) ≤ k → IsBeginning seat entries k

-- the entries of a legal history have lines
abbrev pub LegalEntriesHaveLines : Type 0
LegalEntriesHaveLines = (seat : Identity) (entries : List EntryFields) → IsLegal seat entries → HaveLines seat entries

-- and so what any cut leaves of its journal is a legal history
pub record LeavesLegal (seat : Identity) (entries : List EntryFields) (k : ℕ) : Type 0 where
  pub beginning : IsBeginning seat entries k
  pub legal : IsLegal seat (take beginning.count entries)

abbrev pub CrashesLeaveLegal : Type 0
CrashesLeaveLegal = (seat : Identity) (entries : List EntryFields) (k : ℕ)
    → IsLegal seat entries → length (journal_text seat []) ≤ k → LeavesLegal seat entries k

-- a text is the journal of one member with one list of entries
abbrev pub OneJournal : Type 0
OneJournal = (text : List ℕ) (a b : Identity) (es fs : List EntryFields) (s t : List ℕ)
    → IsJournal text a es s → IsJournal text b fs t → (a ≡ b) × (es ≡ fs) × (s ≡ t)
