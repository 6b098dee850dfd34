use Rattle.std.proofs.Common.{refl, ap, ◌∙◌, Result, Ok}
use Rattle.cb_frames.specs.declared.frame.Frame.{Frame}
use Rattle.cb_frames.specs.declared.fault.FrameFault.{FrameFault}
use Rattle.cb_frames.specs.Fields.{FrameFields, fields_of}
use Rattle.cb_member.specs.CoreMember.{core_of}
use Rattle.cb_member.proofs.CoreArrivals.{refused_bytes, refuses_arrival}
use Rattle.cb_member.proofs.state.State.receive_unlimited.Goals as goal

pub returns-in-Err : goal.returns-in-Err
returns-in-Err c =
    let core = core_of c.args.self.now in
    refuses_arrival c.args.asked c.args.bytes.now core core c.args.events.now.items c.args.events.now.items c.args.entries.now.items c.args.entries.now.items c.in-Err.refusal c.requires refl refl refl (refused_bytes core c.args.bytes.now c.in-Err.refusal c.in-Err.ensures.refused)

pub returns-in-Ok-Request : goal.returns-in-Ok-Request
returns-in-Ok-Request c =
    c.receive_request.ensures c.args.asked c.args.bytes.now c.args.events.now.items c.args.entries.now.items (c.in-Ok-Request.ensures.frame ∙ ap (λ (f : Frame). let read : Result FrameFields FrameFault = Ok (fields_of f) in read) c.in-Ok-Request.field-0-is)

pub returns-in-Ok-Status : goal.returns-in-Ok-Status
returns-in-Ok-Status c = c.receive_status.ensures c.args.events.now.items

pub returns-in-Ok-Help : goal.returns-in-Ok-Help
returns-in-Ok-Help c =
    c.receive_help.ensures c.args.asked c.args.bytes.now c.args.events.now.items c.args.entries.now.items (c.in-Ok-Help.ensures.frame ∙ ap (λ (f : Frame). let read : Result FrameFields FrameFault = Ok (fields_of f) in read) c.in-Ok-Help.field-0-is)
