use Rattle.std.proofs.Common.{◌≡◌, ◌≤◌, ◌∙◌, [], sym, arith}
use Rattle.cb_handle.specs.Frames.{frames_of}
use Rattle.cb_handle.proofs.Parts.{ended_done, ended_refused, no_frames, one_part_more}
use Rattle.cb_handle.proofs.held.Held.receive_parts.Goals as goal
use Rattle.cb_handle.proofs.held.Held.receive_parts.Goals.{else-count-gt0-via-then-count-gt0+else-not-is_empty, else-count-gt0-via-else-count-gt0}

-- the part is refused, and nothing has changed behind those before it
pub returns-in-Err-clause-done : goal.returns-in-Err-clause-done
returns-in-Err-clause-done c =
    let l = c.loop-count in
    ended_done c.args.first c.args.lengths.now c.args.self.now l.self l.place l.count l.invariant c.loop-count-test.true c.in-Some.ensures.0 c.in-Some.end c.in-Some.ensures.1
    c.in-Err.refusal c.in-Err.ensures.refused c.take_between.new.self c.in-Err.ensures.same c.ended-in-Err.result c.ended-in-Err.ensures

pub returns-in-Err-clause-refused : goal.returns-in-Err-clause-refused
returns-in-Err-clause-refused c =
    let l = c.loop-count in
    ended_refused c.args.first c.args.lengths.now c.args.self.now l.self l.place l.count l.invariant c.loop-count-test.true c.in-Some.ensures.0 c.in-Some.end c.in-Some.ensures.1
    c.in-Err.refusal c.in-Err.ensures.refused c.ended-in-Err.result c.ended-in-Err.ensures

pub loop-count-preserved : goal.loop-count-preserved
loop-count-preserved c =
    let l = c.loop-count in
    let silent : 1 ≤ l.count → frames_of l.self.frames ≡ [] =
    elim c.else-count-gt0.branch [
      | else-count-gt0-via-then-count-gt0+else-not-is_empty w ↦ λ some. no_frames w.as_slice.result.now (frames_of l.self.frames) w.as_slice.ensures (sym w.is_empty.ensures ∙ w.if-not-is_empty.false)
      | else-count-gt0-via-else-count-gt0 w ↦ λ some. absurd (omega (arith, some, w.if-count-gt0.false))
    ] in
    one_part_more c.args.first c.args.lengths.now c.args.self.now l.self l.place l.count l.invariant c.loop-count-test.true c.in-Some.ensures.0 c.in-Some.end c.in-Some.ensures.1
    silent c.take_between.new.self c.in-Ok._received c.in-Ok.ensures.done
