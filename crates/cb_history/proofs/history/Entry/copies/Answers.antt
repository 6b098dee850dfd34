use Rattle.std.proofs.Common.{ap, ◌∙◌}
use Rattle.cb_history.specs.Facts.{entry_fields}
use Rattle.cb_history.proofs.Copies.{one_more_copy}
use Rattle.cb_history.proofs.history.Entry.copies.Goals as goal

pub loop-entry-preserved : goal.loop-entry-preserved
loop-entry-preserved c =
    rw c.in_ok-push.ensures.items (one_more_copy c.loop-entry.copies.items c.args.entries.now _ c.entry-item.result c.loop-entry.entry-index c.loop-entry.invariant c.loop-entry-test.true (c.in_ok-copy.ensures ∙ ap entry_fields c.entry-item.is))
