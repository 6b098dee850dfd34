use Rattle.std.proofs.Common.{arith}
use Rattle.std.proofs.lemmas.List.{get_or_default}
use Rattle.cb_frames.proofs.PairsWritten.{change_walk, change_here, row_of_changes, writing_goes_on, changes_written}
use Rattle.cb_frames.proofs.writing.put_changes.Goals as goal

pub loop-change-preserved : goal.loop-change-preserved
loop-change-preserved c =
    let i = c.loop-change.invariant in
    let ds = c.args.changes.now in (
      i.0,
      i.1,
      writing_goes_on (change_walk i.0) 0 ds c.args.out.now.items c.loop-change.out.items c.put.new.out.items c.put-in-loop-change.new.out.items c.loop-change.least c.loop-change.change-index _ i.2 c.loop-change-test.true (get_or_default ds c.loop-change.change-index _ _ c.loop-change-test.true) (row_of_changes i.0 0 ds i.1) c.in_ok-put.ensures.text c.in_ok-put-2.ensures.text,
    )

pub returns : goal.returns
returns c =
    let i = c.loop-change.invariant in
    changes_written i.0 c.args.changes.now c.args.out.now.items c.loop-change.out.items c.loop-change.least c.loop-change.change-index i.2 c.loop-change-test.false

pub overflow_sub-change : goal.overflow_sub-change
overflow_sub-change c =
    let i = c.loop-change.invariant in
    (change_here i.0 c.args.changes.now c.loop-change.least c.loop-change.change-index (record { field = 0; amount = 0 }) i.2.checked c.loop-change-test.true i.1).0

pub overflow_add-least : goal.overflow_add-least
overflow_add-least c =
    let i = c.loop-change.invariant in
    let here = change_here i.0 c.args.changes.now c.loop-change.least c.loop-change.change-index (record { field = 0; amount = 0 }) i.2.checked c.loop-change-test.true i.1 in
    omega (arith, here.1.0)
