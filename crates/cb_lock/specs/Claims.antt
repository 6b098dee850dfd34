-- Receipts against the history that they are of.
use Rattle.std.specs.Prelude.{◌≡◌, ◌⊎◌, ℕ, zero, suc, ◌+◌, ◌<◌, ◌≤◌, ◌==◌, List, [], ◌∷◌, ◌++◌, length, map, Option, Some, None, slice_get, if◌then◌else◌}
use Rattle.std.specs.List.{AllByRecursion}
use Rattle.cb_history.specs.Facts.{EntryFields}
use Rattle.cb_lock.specs.Receipts.{ReceiptFields, SeatState}

-- the entry with this number, of which 1 is the first
abbrev pub entry_at : List EntryFields → ℕ → Option EntryFields
entry_at entries zero = None
entry_at entries (suc k) = slice_get entries k

-- how often a number stands in a list
abbrev pub times : ℕ → List ℕ → ℕ
times k [] = 0
times k (x ∷ xs) = (if x == k then 1 else 0) + times k xs

abbrev pub places_of : List ReceiptFields → List ℕ
places_of receipts = map (λ r. r.place) receipts

-- all receipts, in the order of the seats
abbrev pub receipts_of : List SeatState → List ReceiptFields
receipts_of [] = []
receipts_of (s ∷ seats) = s.receipts ++ receipts_of seats

-- ---- what the receipts have to be

-- each place is above the one before it
abbrev pub Rise : ℕ → List ReceiptFields → Type 0
Rise last [] = Unit {0}
Rise last (r ∷ rs) = (last < r.place) × Rise r.place rs

-- The receipts of the seats claim these entries: each has the entry that stands at its place, a seat's places rise, and no entry is
-- without a receipt or has two.
pub record AreClaimed (entries : List EntryFields) (seats : List SeatState) : Type 0 where
  pub entries_are : AllByRecursion (λ r. entry_at entries r.place ≡ Some r.entry) (receipts_of seats)
  pub rising : AllByRecursion (λ s. Rise 0 s.receipts) seats
  pub once : (place : ℕ) → 1 ≤ place → place ≤ length entries → times place (places_of (receipts_of seats)) ≡ 1

-- ---- the first receipt that is wrong

-- a receipt, with the places of all receipts before it, and the place of the one before it in its seat, or 0
pub record Claim : Type 0 where
  pub before : List ℕ
  pub last : ℕ
  pub receipt : ReceiptFields

abbrev pub claim : List ℕ → ℕ → ReceiptFields → Claim
claim before last r = record { before = before; last = last; receipt = r }

abbrev pub claims_of_seat : List ℕ → ℕ → List ReceiptFields → List Claim
claims_of_seat before last [] = []
claims_of_seat before last (r ∷ rs) = claim before last r ∷ claims_of_seat (before ++ r.place ∷ []) r.place rs

abbrev pub claims_behind : List ℕ → List SeatState → List Claim
claims_behind before [] = []
claims_behind before (s ∷ seats) = claims_of_seat before 0 s.receipts ++ claims_behind (before ++ places_of s.receipts) seats

-- all receipts of these seats, in order
abbrev pub claims_of : List SeatState → List Claim
claims_of seats = claims_behind [] seats

-- it has the entry that stands at its place, no other has the place, and it is above those before it in its seat
pub record IsRight (entries : List EntryFields) (c : Claim) : Type 0 where
  pub entry_is : entry_at entries c.receipt.place ≡ Some c.receipt.entry
  pub new : times c.receipt.place c.before ≡ 0
  pub rises : c.last < c.receipt.place

-- the place of the first that is not right, None where each is
abbrev pub FirstWrong : List EntryFields → List Claim → Option ℕ → Type 0
FirstWrong entries [] place = place ≡ None
FirstWrong entries (c ∷ cs) place = (IsRight entries c × FirstWrong entries cs place) ⊎ ((¬ IsRight entries c) × (place ≡ Some c.receipt.place))
