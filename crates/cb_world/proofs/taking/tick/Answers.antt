use Rattle.std.proofs.Common.{length, ap, arith}
use Rattle.cb_history.specs.Legal.{ToTick}
use Rattle.cb_schedules.specs.Schedule.{TickAnswer, frames_sent}
use Rattle.cb_world.proofs.Few.{few_sent_out}
use Rattle.cb_world.proofs.taking.tick.Goals as goal

pub send-requires : goal.send-requires
send-requires c =
    let m = c.args.member.now in
    let few = few_sent_out m.seat m.limit m.entries ToTick c.seat.ensures.member.legal.group.size.at_most_sixty_four in
    omega (arith, c.requires, few, ap (λ answer. length (frames_sent (TickAnswer answer))) c.in-Ok.ensures.done.answer, c.in-Ok.field-0.out.ok.0)
