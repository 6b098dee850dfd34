-- Receipts and seats.
use Rattle.std.specs.Prelude.{ℕ, ◌+◌, List, [], ◌∷◌, ◌++◌, Option, Some, None}
use Rattle.cb_history.specs.Facts.{EntryFields, entry_fields}
use Rattle.cb_lock.specs.declared.seat.Receipt.{Receipt}

-- a receipt, without where its entry lies in memory
pub record ReceiptFields : Type 0 where
  pub place : ℕ
  pub entry : EntryFields

abbrev pub receipt_fields : Receipt → ReceiptFields
receipt_fields r = record { place = r.place; entry = entry_fields r.entry }

-- how many parts of its ledger a seat has, and its receipts
pub record SeatState : Type 0 where
  pub parts : ℕ
  pub receipts : List ReceiptFields

-- with a receipt for the entry at this place, where one was added
abbrev pub and_claim : List ReceiptFields → ℕ → Option EntryFields → List ReceiptFields
and_claim receipts place None = receipts
and_claim receipts place (Some e) = receipts ++ record { place = place; entry = e } ∷ []

-- a receipt for each of these entries, in order, which stand behind so many others
abbrev pub receipts_behind : ℕ → List EntryFields → List ReceiptFields
receipts_behind count [] = []
receipts_behind count (e ∷ es) = record { place = count + 1; entry = e } ∷ receipts_behind (count + 1) es

-- a receipt for each entry of a history
abbrev pub receipts_of_history : List EntryFields → List ReceiptFields
receipts_of_history entries = receipts_behind 0 entries

-- how many entries were added
abbrev pub entered : Option EntryFields → ℕ
entered None = 0
entered (Some e) = 1
