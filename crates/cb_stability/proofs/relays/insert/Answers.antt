use Rattle.std.proofs.Common.{◌≡◌, ◌+◌, suc, sym, ◌∙◌, ap, arith}
use Rattle.std.specs.Option.{option_copied_mut}
use Rattle.cb_stability.proofs.Placing.{carried_on, as_many, has_one}
use Rattle.cb_stability.proofs.relays.insert.Goals.{in-Some, in_default}
use Rattle.cb_stability.proofs.relays.insert.Goals as goal

pub loop-index-preserved : goal.loop-index-preserved
loop-index-preserved c =
    let l = c.loop-index in
    let frames = l.frames.items in
    let more : l.index + 1 ≡ suc l.index = omega arith in
    elim c.match-get_mut.branch [
      | in-Some w ↦
          let kept = w.in-Some.kept.now in
          rw (w.frames-is, w.carried-is, w.swap.ensures.x_after, w.swap.ensures.y_after, more) (
            carried_on l.index l.carried kept frames (sym c.get_mut.ensures.value ∙ ap option_copied_mut w.in-Some.is) ∙ l.invariant.0,
            l.invariant.1,
            as_many l.index l.carried frames ∙ l.invariant.2,
          )
      | in_default w ↦
          absurd (has_one l.index frames (omega (arith, c.loop-index-test.true, c.len-index-end.ensures.len, l.invariant.2))
          (sym c.get_mut.ensures.value ∙ ap option_copied_mut w.in_default.is))
    ]
