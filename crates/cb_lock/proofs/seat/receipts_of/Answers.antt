use Rattle.std.proofs.Common.{map, arith}
use Rattle.std.proofs.lemmas.List.{length-map}
use Rattle.std.specs.Vec.{vec_len}
use Rattle.cb_lock.specs.Receipts.{receipt_fields}
use Rattle.cb_lock.proofs.Past.{one_more, all_there, counted}
use Rattle.cb_lock.proofs.seat.receipts_of.Goals as goal

pub loop-entry-preserved : goal.loop-entry-preserved
loop-entry-preserved c =
    one_more c.args.entries.now c.entry-item.result c.loop-entry.entry-index (map receipt_fields c.loop-entry.receipts.items) (map receipt_fields c.claim_next.new.receipts.items) (vec_len c.loop-entry.receipts) (vec_len c.claim_next.new.receipts)
    c.loop-entry.invariant c.loop-entry-test.true c.entry-item.is c.in_ok-claim_next.ensures.receipts c.in_ok-claim_next.ensures.count

pub returns-clause-receipts : goal.returns-clause-receipts
returns-clause-receipts c =
    all_there c.args.entries.now c.loop-entry.entry-index (map receipt_fields c.loop-entry.receipts.items) (vec_len c.loop-entry.receipts) c.loop-entry.invariant c.loop-entry-test.false

pub returns-clause-count : goal.returns-clause-count
returns-clause-count c =
    omega (arith, length-map c.loop-entry.receipts.items receipt_fields, counted c.args.entries.now (map receipt_fields c.loop-entry.receipts.items) (returns-clause-receipts c))
