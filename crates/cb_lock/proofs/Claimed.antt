-- Where no receipt is wrong, and there are enough, the history is claimed.
use Rattle.std.proofs.Common.{◌≡◌, ℕ, ◌≤◌, inl, inr, List, [], ◌∷◌, ◌++◌, length, Some, None, refl}
use Rattle.std.specs.List.{AllByRecursion}
use Rattle.cb_history.specs.Facts.{EntryFields}
use Rattle.cb_lock.specs.Receipts.{ReceiptFields, SeatState}
use Rattle.cb_lock.specs.Claims.{Claim, FirstWrong, AreClaimed, Rise, entry_at, places_of, receipts_of, claims_of_seat, claims_behind}
use Rattle.cb_lock.specs.Seen.{Checks}

abbrev AreAt : List EntryFields → List ReceiptFields → Type 0
AreAt entries receipts = AllByRecursion (λ r. entry_at entries r.place ≡ Some r.entry) receipts

each_append : (P : ReceiptFields → Type 0) (xs ys : List ReceiptFields) → AllByRecursion P xs → AllByRecursion P ys → AllByRecursion P (xs ++ ys)
each_append P [] ys a b = b
each_append P (x ∷ xs) ys a b = (a.0, each_append P xs ys a.1 b)

-- of the receipts of one seat, and of those behind
seat_right : (entries : List EntryFields) (before : List ℕ) (last : ℕ) (rs : List ReceiptFields) (ds : List Claim) → FirstWrong entries (claims_of_seat before last rs ++ ds) None
    → AreAt entries rs × Rise last rs × FirstWrong entries ds None
seat_right entries before last [] ds f = (tt, tt, f)
seat_right entries before last (r ∷ rs) ds (inl f) =
    let rest = seat_right entries (before ++ r.place ∷ []) r.place rs ds f.1 in
    ((f.0.entry_is, rest.0), (f.0.rises, rest.1), rest.2)
seat_right entries before last (r ∷ rs) ds (inr f) = let e = f.1 in absurd cc

seats_right : (entries : List EntryFields) (before : List ℕ) (seats : List SeatState) → FirstWrong entries (claims_behind before seats) None
    → AreAt entries (receipts_of seats) × AllByRecursion (λ s. Rise 0 s.receipts) seats
seats_right entries before [] f = (tt, tt)
seats_right entries before (s ∷ seats) f =
    let here = seat_right entries before 0 s.receipts (claims_behind (before ++ places_of s.receipts) seats) f in
    let rest = seats_right entries (before ++ places_of s.receipts) seats here.2 in
    (each_append _ s.receipts (receipts_of seats) here.0 rest.0, (here.1, rest.1))

pub claimed : (entries : List EntryFields) (seats : List SeatState) → length entries ≤ length (receipts_of seats) → Checks entries seats None → AreClaimed entries seats
claimed entries seats enough checked =
    let right = seats_right entries [] seats checked.found in
    record { entries_are = right.0; rising = right.1; once = checked.once refl enough }
