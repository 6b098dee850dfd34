use Rattle.std.proofs.Common.{◌≡◌, ◌∙◌, suc, Bool, Some, length, map, option_map, slice_get, refl, ap, arith}
use Rattle.std.proofs.lemmas.Option.{slice_get-map, slice_get_read}
use Rattle.cb_history.specs.Facts.{entry_fields}
use Rattle.cb_lock.specs.Receipts.{receipt_fields}
use Rattle.cb_lock.proofs.Checking.{right}
use Rattle.cb_lock.proofs.closing.right_index.Goals as goal

pub returns-clause-right : goal.returns-clause-right
returns-clause-right c =
    let entries = c.args.entries.now in
    let index = c.in_ok-index.index in
    let place : c.args.receipt.now.place ≡ suc index = omega (arith, c.in_ok-index.ensures.0, c.in_ok-index.ensures.1) in
    let entry : slice_get entries index ≡ Some c.in_ok-entry.entry.now = slice_get_read entries (length entries) index c.in_ok-entry.entry.now refl c.in_ok-entry.ensures.lookup.3.0 c.in_ok-entry.ensures.lookup.1 in
    let mark : slice_get c.args.seen.now index ≡ Some c.in_ok-get.field-0.now = slice_get_read c.args.seen.now (length c.args.seen.now) index c.in_ok-get.field-0.now refl c.in_ok-get.ensures.lookup.3.0 c.in_ok-get.ensures.lookup.1 in
    λ before m.
    right (map entry_fields entries) c.args.seen.now before c.args.last index (receipt_fields c.args.receipt.now) (entry_fields c.in_ok-entry.entry.now) m place (slice_get-map entry_fields entries index ∙ ap (option_map entry_fields) entry)
    (mark ∙ ap (λ (b : Bool). Some b) c.if-branch.false) c.if-receipt-last.false (c.if-not-is_same.ensures.0 refl)
