use Rattle.std.proofs.Common.{◌+◌, arith, length, refl}
use Rattle.std.proofs.lemmas.Option.{slice_get_read}
use Rattle.confer_play.proofs.Printing.{step_goes_on, steps_end}
use Rattle.confer_play.proofs.running.put_steps.Goals as goal

pub loop-step-preserved : goal.loop-step-preserved
loop-step-preserved c = record {
  number = omega (arith, c.loop-step.invariant.number);
  shown = λ shown. c.in_ok-put_part.ensures.shown (c.loop-step.invariant.shown shown);
  puts = λ shown.
      let at : _ = slice_get_read c.args.steps.now (length c.args.steps.now) c.loop-step.step-index c.step-item.result refl c.loop-step-test.true c.step-item.is in
      step_goes_on c.args.rooms.now.world c.loop-step.rooms.world c.put_part.new.rooms.world c.args.steps.now c.loop-step.step-index c.loop-step.number (c.loop-step.number + 1) c.step-item.result
      c.args.text.now.items c.loop-step.text.items c.put_part.new.text.items at (omega arith) (c.loop-step.invariant.puts shown)
      (c.in_ok-put_part.ensures.puts (c.loop-step.invariant.shown shown));
}

pub returns : goal.returns
returns c = λ shown.
    steps_end c.args.rooms.now.world c.loop-step.rooms.world c.args.steps.now c.loop-step.step-index c.loop-step.number c.args.text.now.items c.loop-step.text.items
    (omega (arith, c.loop-step-test.false)) (c.loop-step.invariant.puts shown)
