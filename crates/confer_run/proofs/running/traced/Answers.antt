use Rattle.std.proofs.Common.{Err, ap, inr, ◌∙◌}
use Rattle.confer_run.proofs.running.traced.Goals as goal

pub returns-in-Err-MixedGroups-clause-fault : goal.returns-in-Err-MixedGroups-clause-fault
returns-in-Err-MixedGroups-clause-fault c =
    inr (c.write_trace.ensures.mixed.0 (c.in-Err-MixedGroups.is ∙ ap Err c.in-Err-MixedGroups.field-0-is))
