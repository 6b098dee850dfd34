use Rattle.std.proofs.Common.{List, OnOk, Some, arith, subst, sym}
use Rattle.cb_frames.specs.declared.frame.Change.{Change}
use Rattle.cb_frames.specs.Fields.{burst_fields}
use Rattle.cb_frames.specs.Text.{SpellAll, pairs_from, AreChanges}
use Rattle.cb_frames.proofs.PairsWritten.{Appends, row_of_changes, changes_few, numbers_written}
use Rattle.cb_frames.proofs.writing.put_burst.Goals as goal

pub overflow_cast-len : goal.overflow_cast-len
overflow_cast-len c =
    let own = Some c.args.burst.now.sender in
    let ds = c.args.burst.now.changes.items in
    omega (arith, c.len.ensures, changes_few own 0 ds (omega arith) (row_of_changes own 0 ds c.requires.changes))

pub put_changes-requires : goal.put_changes-requires
put_changes-requires c = (Some c.args.burst.now.sender, subst (λ (ds : List Change). AreChanges c.args.burst.now.sender 0 ds) (sym c.deref.ensures.value) c.requires.changes)

pub returns : goal.returns
returns c =
    let pairs = subst (λ (ds : List Change). OnOk c.put_changes.result (Appends (SpellAll (pairs_from 0 ds)) c.put-4.new.out.items c.put_changes.new.out.items)) c.deref.ensures.value c.put_changes.ensures in
    numbers_written c.put_changes.result (burst_fields c.args.burst.now) c.len.result
    c.args.out.now.items c.put.new.out.items c.put-2.new.out.items c.put-3.new.out.items c.put-4.new.out.items c.put_changes.new.out.items
    (omega (arith, c.len.ensures, c.args.burst.now.changes.ok.0)) c.in_ok-put.ensures.text c.in_ok-put-2.ensures.text c.in_ok-put-3.ensures.text c.in_ok-put-4.ensures.text pairs
