use Rattle.std.proofs.Common.{Ok, ap, subst, ◌∙◌}
use Rattle.cb_frames.specs.declared.frame.Frame.{Frame}
use Rattle.cb_frames.specs.Fields.{fields_of}
use Rattle.cb_frames.specs.Text.{IsText}
use Rattle.confer_expand.specs.Answers.{cast_or_refusal}
use Rattle.confer_expand.proofs.Reading.{burst_is_read}
use Rattle.confer_expand.proofs.expansion.unit_of.Goals as goal

pub returns-in-Ok-Burst : goal.returns-in-Ok-Burst
returns-in-Ok-Burst c =
    let read = c.in-Ok-Burst in (
      ap cast_or_refusal read.ensures.exact ∙ ap (λ (f : Frame). cast_or_refusal (Ok (fields_of f))) read.field-0-is,
      burst_is_read read.burst c.args.bytes.now (subst (λ (f : Frame). IsText (fields_of f) c.args.bytes.now) read.field-0-is read.ensures.text),
    )
