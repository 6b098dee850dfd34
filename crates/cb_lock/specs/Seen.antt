-- Which places were claimed, and what looking through the receipts finds.
use Rattle.std.specs.Prelude.{◌≡◌, ℕ, suc, ◌+◌, ◌≤◌, Bool, List, [], ◌∷◌, ◌++◌, length, Option, None, slice_get, Some, if◌then◌else◌}
use Rattle.cb_history.specs.Facts.{EntryFields}
use Rattle.cb_lock.specs.Receipts.{ReceiptFields, SeatState}
use Rattle.cb_lock.specs.Claims.{times, places_of, receipts_of, claims_of, claims_of_seat, FirstWrong}

-- how many marks are set
abbrev pub marks_set : List Bool → ℕ
marks_set [] = 0
marks_set (b ∷ bs) = (if b then 1 else 0) + marks_set bs

-- a mark for each entry: it is set where the entry's place is among these, and that place then stands there once
pub record Marks (entries : List EntryFields) (seen : List Bool) (places : List ℕ) : Type 0 where
  pub many : length seen ≡ length entries
  pub marked : (k : ℕ) (b : Bool) → slice_get seen k ≡ Some b → times (suc k) places ≡ (if b then 1 else 0)
  pub total : marks_set seen ≡ length places

-- the first wrong receipt of a seat, behind these places; where none is wrong its places are marked
pub record ChecksSeat (entries : List EntryFields) (before : List ℕ) (receipts : List ReceiptFields) (seen : List Bool) (place : Option ℕ) : Type 0 where
  pub found : FirstWrong entries (claims_of_seat before 0 receipts) place
  pub marks : place ≡ None → Marks entries seen (before ++ places_of receipts)

-- the first wrong receipt of all; where none is wrong, and there are as many as entries, each entry has one
pub record Checks (entries : List EntryFields) (seats : List SeatState) (place : Option ℕ) : Type 0 where
  pub found : FirstWrong entries (claims_of seats) place
  pub once : place ≡ None → length entries ≤ length (receipts_of seats) → (k : ℕ) → 1 ≤ k → k ≤ length entries → times k (places_of (receipts_of seats)) ≡ 1
