use Rattle.std.proofs.Common.{sym, subst, List}
use Rattle.cb_schedules.specs.Schedule.{SentFrame}
use Rattle.cb_world.specs.Steps.{step_fields}
use Rattle.cb_trace.specs.Search.{FindsFirstFrames, found_in}
use Rattle.cb_trace.proofs.OneStep.{frames_stay, old_frames}
use Rattle.cb_trace.proofs.joining.take.Goals as goal

pub note-requires-clause-within : goal.note-requires-clause-within
note-requires-clause-within c =
    frames_stay c.args.joining.now.world c.step.new.self (step_fields c.args.step) c.in_ok-step.ensures.step c.frames-sent.result.now c.frames.result.now c.frames-sent.ensures.frames c.frames.ensures.frames

pub note-requires-clause-found : goal.note-requires-clause-found
note-requires-clause-found c =
    subst (λ (sent : List SentFrame). FindsFirstFrames sent (found_in c.args.joining.now.first_frames))
    (sym (old_frames c.args.joining.now.world c.step.new.self (step_fields c.args.step) c.in_ok-step.ensures.step c.frames-sent.result.now c.frames.result.now c.frames-sent.ensures.frames c.frames.ensures.frames))
    c.requires.frames
