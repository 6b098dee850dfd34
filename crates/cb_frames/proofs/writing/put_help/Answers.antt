use Rattle.std.proofs.Common.{List, OnOk, arith, subst}
use Rattle.cb_frames.specs.declared.frame.Range.{Range}
use Rattle.cb_frames.specs.Fields.{help_fields}
use Rattle.cb_frames.specs.Text.{SpellAll, ranges_from}
use Rattle.cb_frames.proofs.PairsWritten.{Appends, help_written}
use Rattle.cb_frames.proofs.writing.put_help.Goals as goal

pub returns : goal.returns
returns c =
    let pairs = subst (λ (rs : List Range). OnOk c.put_ranges.result (Appends (SpellAll (ranges_from 1 rs)) c.put-5.new.out.items c.put_ranges.new.out.items)) c.deref.ensures.value c.put_ranges.ensures in
    help_written c.put_ranges.result (help_fields c.args.help.now) c.len.result
    c.args.out.now.items c.put.new.out.items c.put-2.new.out.items c.put-3.new.out.items c.put-4.new.out.items c.put-5.new.out.items c.put_ranges.new.out.items
    (omega (arith, c.len.ensures, c.args.help.now.ranges.ok.0)) c.in_ok-put.ensures.text c.in_ok-put-2.ensures.text c.in_ok-put-3.ensures.text c.in_ok-put-4.ensures.text c.in_ok-put-5.ensures.text pairs
