use Rattle.std.proofs.Common.{subst, arith}
use Rattle.cb_frames.specs.declared.frame.Frame.{Frame}
use Rattle.cb_frames.specs.Fields.{burst_fields, fields_of}
use Rattle.cb_frames.specs.Text.{KeepsRules}
use Rattle.cb_frames.proofs.Carried.{rules_number}
use Rattle.cb_reference.proofs.reading.as_read.Goals as goal

pub of-requires-in-Burst-clause-numbered : goal.of-requires-in-Burst-clause-numbered
of-requires-in-Burst-clause-numbered c =
    rules_number (burst_fields c.in-Burst.burst) (subst (λ (f : Frame). KeepsRules (fields_of f)) c.in-Burst.is c.requires.rules) (omega arith)
