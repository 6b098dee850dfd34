use Rattle.std.proofs.Common.{◌∙◌, Result, Err, ap, inl, inr, refl}
use Rattle.cb_frames.specs.declared.fault.FrameFault.{FrameFault}
use Rattle.cb_frames.specs.Fields.{FrameFields}
use Rattle.cb_frames.proofs.NeverMemory.{reading_takes_no_memory}
use Rattle.cb_member.proofs.core_member.arriving.read.Goals as goal

pub returns-in-Err-NoMemory-clause-refused : goal.returns-in-Err-NoMemory-clause-refused
returns-in-Err-NoMemory-clause-refused c =
    let want : FrameFault → Result FrameFields FrameFault = λ fault. Err fault in
    elim c.in-Err-NoMemory.ensures.exact [
      | inl fault ↦ absurd (reading_takes_no_memory c.args.bytes.now (fault ∙ ap want c.in-Err-NoMemory.field-0-is))
      | inr frame ↦ inr (refl, frame.1)
    ]
