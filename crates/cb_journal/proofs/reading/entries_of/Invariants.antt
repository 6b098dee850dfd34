use Rattle.std.proofs.Common.{◌≤◌, ◌+◌, [], List, ℕ, length, map}
use Rattle.cb_history.specs.Facts.{entry_fields}
use Rattle.cb_journal.specs.Reading.{ReadTo}
use Rattle.cb_journal.proofs.reading.entries_of.Given as goal

abbrev pub invariant-lines : goal.invariant-lines
invariant-lines l = record {
  read : (whole : List ℕ) → ReadTo whole l.text l.seat [] 2 → ReadTo whole l.rest l.seat (map entry_fields l.entries.items) l.line;
  few : l.line + length l.rest ≤ length l.text + 2;
  short : length l.rest ≤ length l.text;
}

abbrev pub decreases-lines : goal.decreases-lines
decreases-lines l = length l.rest
