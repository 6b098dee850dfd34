use Rattle.std.proofs.Common.{◌≢◌, length, sym, ◌∙◌, arith}
use Rattle.cb_stability.proofs.Passed.{passed_more, taken_more}
use Rattle.cb_stability.proofs.relays.copies_behind.Goals as goal

pub loop-frame-preserved-then-passed-count : goal.loop-frame-preserved-then-passed-count
loop-frame-preserved-then-passed-count c =
    let l = c.loop-frame in
    passed_more c.args.delivered c.args.count c.args.ranges.now c.args.frames.now.items l.frame-iterator l.passed l.copies.items
    l.invariant c.in-Some.frame.now _ c.in-Some.ensures.steps (sym c.is_handed_on.ensures ∙ c.if-not-is_handed_on.false) c.if-passed-count.true

pub loop-frame-preserved : goal.loop-frame-preserved
loop-frame-preserved c =
    let l = c.loop-frame in
    let room : length l.copies.items ≢ 64 = λ e. c.if-len-eq-MOST_FRAMES.false (omega (arith, e, c.len.ensures, l.copies.ok.0)) in
    rw c.in_ok-copy_if_in_some.ensures
    (taken_more c.args.delivered c.args.count c.args.ranges.now c.args.frames.now.items l.frame-iterator l.passed l.copies.items
    l.invariant c.in-Some.frame.now _ c.in-Some.ensures.steps (sym c.is_handed_on.ensures ∙ c.if-not-is_handed_on.false) c.if-passed-count.false room)
