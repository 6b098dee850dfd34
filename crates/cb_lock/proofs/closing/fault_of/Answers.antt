use Rattle.std.proofs.Common.{◌≡◌, ◌≤◌, ℕ, List, Option, None, length, ap, subst, rules, arith}
use Rattle.std.proofs.lemmas.List.{length-map}
use Rattle.cb_history.specs.Facts.{EntryFields, entry_fields}
use Rattle.cb_lock.specs.Receipts.{SeatState}
use Rattle.cb_lock.specs.Claims.{receipts_of}
use Rattle.cb_lock.specs.Seen.{Checks}
use Rattle.cb_lock.proofs.Claimed.{claimed}
use Rattle.cb_lock.proofs.closing.fault_of.Goals as goal

pub returns-in-Ok-None : goal.returns-in-Ok-None
returns-in-Ok-None g c =
    let entries = c.args.member.now.entries in
    let seats = c.args.seats.now.items in
    let member : c.args.member.now.seat ≡ c.args.identity = search rules in
    let many = length-map c.history-entries.result.now entry_fields in
    let enough : length entries ≤ length (receipts_of seats) =
    omega (arith, many, c.if-claimed-entries.false, c.count-claimed.ensures, ap (λ (ss : List SeatState). length (receipts_of ss)) c.as_slice.ensures.value, ap (λ (es : List EntryFields). length es) c.history-entries.ensures.entries) in
    let checks : Checks entries seats None =
    subst (λ (k : List EntryFields × (List SeatState × Option ℕ)). Checks k.0 k.1.0 k.1.1) (λ i. (c.history-entries.ensures.entries i, (c.as_slice-2.ensures.value i, c.in-Ok-None.field-0-is i))) c.in-Ok-None.ensures in
    record { enough = enough; member = member; claimed = claimed entries seats enough checks }
