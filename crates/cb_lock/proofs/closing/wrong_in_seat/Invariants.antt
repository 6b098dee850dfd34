use Rattle.std.proofs.Common.{ℕ, List, map, drop}
use Rattle.cb_history.specs.Facts.{entry_fields}
use Rattle.cb_lock.specs.Receipts.{receipt_fields}
use Rattle.cb_lock.specs.Seen.{Marks}
use Rattle.cb_lock.proofs.Checking.{SeatGoesOn}
use Rattle.cb_lock.proofs.closing.wrong_in_seat.Given as goal

-- behind whatever places: what the receipts to come find is what all find
abbrev pub invariant-loop-receipt : goal.invariant-loop-receipt
invariant-loop-receipt l = (before : List ℕ) → Marks (map entry_fields l.entries) l.fn.seen before → SeatGoesOn (map entry_fields l.entries) before (map receipt_fields l.receipts) (map receipt_fields (drop l.receipt-index l.receipts)) l.seen l.last
