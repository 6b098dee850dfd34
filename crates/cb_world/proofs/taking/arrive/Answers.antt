use Rattle.std.proofs.Common.{length, Ok, ap, ◌∙◌, arith}
use Rattle.cb_history.specs.Answers.{arrival_says}
use Rattle.cb_history.specs.Legal.{ToTake}
use Rattle.cb_schedules.specs.Schedule.{ArrivalAnswer, frames_sent}
use Rattle.cb_world.proofs.Few.{few_sent_out}
use Rattle.cb_world.proofs.taking.arrive.Goals as goal

pub send-requires : goal.send-requires
send-requires c =
    let m = c.args.member.now in
    let few = few_sent_out m.seat m.limit m.entries (ToTake c.args.bytes.now) c.seat.ensures.member.legal.group.size.at_most_sixty_four in
    let says = c.in-Ok-Accepted.ensures.taken.answer ∙ ap (λ arrival. Ok (arrival_says arrival)) c.in-Ok-Accepted.field-0-is in
    omega (arith, c.requires, few, ap (λ answer. length (frames_sent (ArrivalAnswer answer))) says, c.in-Ok-Accepted.out.ok.0)
