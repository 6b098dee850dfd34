-- The seat after a call.
use Rattle.std.proofs.Common.{◌≡◌, ℕ, ◌+◌, List, [], ◌∷◌, ◌++◌, length, Option, None, Some, ap, ◌∙◌}
use Rattle.std.proofs.lemmas.List.{length-append}
use Rattle.cb_history.specs.Facts.{EntryFields}
use Rattle.cb_history.specs.Legal.{Call, and_entry}
use Rattle.cb_history.specs.State.{MemberState, entry_by, state_after}
use Rattle.cb_lock.specs.Receipts.{ReceiptFields, SeatState, and_claim}
use Rattle.cb_lock.specs.Calls.{and_receipt}

-- its place is the new length, which is the old one and one more
pub seat_after : (seat : SeatState) (m new : MemberState) (call : Call) (o : Option EntryFields) (parts : ℕ) (receipts : List ReceiptFields) → entry_by m call ≡ o → new ≡ state_after m call → parts ≡ seat.parts
    → receipts ≡ and_claim seat.receipts (length new.entries) o → record { parts = parts; receipts = receipts } ≡ and_receipt seat m o
seat_after seat m new call None parts receipts by after p r = λ i. record { parts = p i; receipts = r i }
seat_after seat m new call (Some e) parts receipts by after p r =
    let entries : new.entries ≡ m.entries ++ e ∷ [] = ap (λ (s : MemberState). s.entries) after ∙ ap (and_entry m.entries) by in
    let place : length new.entries ≡ length m.entries + 1 = ap (λ (es : List EntryFields). length es) entries ∙ length-append m.entries (e ∷ []) in
    let all = r ∙ ap (λ (n : ℕ). seat.receipts ++ record { place = n; entry = e } ∷ []) place in
    λ i. record { parts = p i; receipts = all i }
