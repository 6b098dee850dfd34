use Rattle.std.proofs.Common.{sym, subst}
use Rattle.cb_world.specs.declared.outcome.Sent.{Sent}
use Rattle.cb_trace.specs.Search.{FindsToo, found_in}
use Rattle.cb_trace.proofs.Frames.{noted}
use Rattle.cb_trace.proofs.joining.note.Goals as goal

pub loop-number-preserved : goal.loop-number-preserved
loop-number-preserved c =
    let before = found_in c.loop-number.first_frames in
    let after = found_in c.note_one.new.first_frames in
    let at = c.index-frames-number.is in
    noted c.args.frames.now c.loop-number.number c.index-frames-number.result before after c.loop-number-test.true at c.loop-number.invariant
    (subst (λ (s : Sent). FindsToo s.bytes c.loop-number.number before after) (sym at) c.in_ok-note_one.ensures)
