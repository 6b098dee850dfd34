use Rattle.std.proofs.Common.{sym, subst}
use Rattle.cb_journal.proofs.Parts.{WroteSoFar, wrote_more}
use Rattle.cb_journal.proofs.writing.write_whole.Goals as goal

pub loop-preserved : goal.loop-preserved
loop-preserved g c =
    subst (WroteSoFar (g.W.Write.contents c.args.output.now) (g.W.Write.contents c.write_some.new.output) c.args.bytes.now) (sym c.split_at.ensures.back)
    (wrote_more _ _ _ _ _ _ c.loop.invariant c.in_ok-count.ensures.ok)
