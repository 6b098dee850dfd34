use Rattle.std.proofs.Common.{map}
use Rattle.std.specs.Vec.{vec_len}
use Rattle.cb_lock.specs.Receipts.{receipt_fields}
use Rattle.cb_lock.proofs.Past.{AreBehind}
use Rattle.cb_lock.proofs.seat.receipts_of.Given as goal

-- the receipts so far, and those of the entries to come, are all
abbrev pub invariant-loop-entry : goal.invariant-loop-entry
invariant-loop-entry l = AreBehind l.entries l.entry-index (map receipt_fields l.receipts.items) (vec_len l.receipts)
