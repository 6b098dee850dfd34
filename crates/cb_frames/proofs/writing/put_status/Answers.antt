use Rattle.std.proofs.Common.{List, None, OnOk, arith, subst}
use Rattle.cb_frames.specs.declared.frame.Change.{Change}
use Rattle.cb_frames.specs.Fields.{status_fields}
use Rattle.cb_frames.specs.Text.{SpellAll, pairs_from}
use Rattle.cb_frames.proofs.PairsWritten.{Appends, row_of_changes, changes_few, status_written}
use Rattle.cb_frames.proofs.writing.put_status.Goals as goal

pub overflow_cast-len : goal.overflow_cast-len
overflow_cast-len c =
    let ds = c.args.status.now.values.items in
    omega (arith, c.len.ensures, changes_few None 0 ds (omega arith) (row_of_changes None 0 ds c.requires.values))

pub returns : goal.returns
returns c =
    let pairs = subst (λ (ds : List Change). OnOk c.put_changes.result (Appends (SpellAll (pairs_from 0 ds)) c.put-3.new.out.items c.put_changes.new.out.items)) c.deref.ensures.value c.put_changes.ensures in
    status_written c.put_changes.result (status_fields c.args.status.now) c.len.result
    c.args.out.now.items c.put.new.out.items c.put-2.new.out.items c.put-3.new.out.items c.put_changes.new.out.items
    (omega (arith, c.len.ensures, c.args.status.now.values.ok.0)) c.in_ok-put.ensures.text c.in_ok-put-2.ensures.text c.in_ok-put-3.ensures.text pairs
