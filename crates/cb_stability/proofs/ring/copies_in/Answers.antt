use Rattle.std.proofs.Common.{◌≢◌, length, arith}
use Rattle.cb_stability.proofs.Found.{found_more}
use Rattle.cb_stability.proofs.ring.copies_in.Goals as goal

pub loop-frame-preserved : goal.loop-frame-preserved
loop-frame-preserved c =
    let room : length c.loop-frame.copies.items ≢ 64 = λ e. c.if-len-eq-MOST_FRAMES.false (omega (arith, e, c.len.ensures, c.loop-frame.copies.ok.0)) in
    rw c.in_ok-copy_if_in_some.ensures
    (found_more c.args.ranges.now c.args.frames.now.items _ c.loop-frame.copies.items c.loop-frame.invariant
    c.in-Some.frame.now _ c.in-Some.ensures.steps room)
