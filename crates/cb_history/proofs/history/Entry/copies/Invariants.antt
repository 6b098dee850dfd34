use Rattle.std.proofs.Common.{◌≡◌, map, take}
use Rattle.cb_history.specs.Facts.{entry_fields}
use Rattle.cb_history.proofs.history.Entry.copies.Given as goal

abbrev pub invariant-loop-entry : goal.invariant-loop-entry
invariant-loop-entry l = map entry_fields l.copies.items ≡ map entry_fields (take l.entry-index l.entries)
