use Rattle.std.proofs.Common.{◌≡◌, [], ◌∷◌, filter, drop, ap, subst, arith, ◌∙◌, length, ◌+◌, ◌≤◌}
use Rattle.cb_delay.specs.declared.message.Message.{Message}
use Rattle.confer_run.specs.Talking.{SawAll, as_shown_to, is_name}
use Rattle.confer_run.specs.declared.participant.Participant.{Participant}
use Rattle.confer_run.proofs.Seeing.{saw_none, saw_next, saw_all, saw_first, saw_so_far}
use Rattle.confer_run.proofs.participant.Participant.catch_up.Goals as goal

pub loop-event-init : goal.loop-event-init
loop-event-init c = saw_none c.args.self.now c.split_at.result.1.now

pub overflow_add-self : goal.overflow_add-self
overflow_add-self c =
    let ahead : c.show.new.self.ahead ≡ c.args.self.now.ahead + c.loop-event.event-index = ap (λ (p : Participant). p.ahead) c.in_ok-show.ensures.kept ∙ c.loop-event.invariant.ahead in
    let within : c.show.new.self.ahead + 1 ≤ length c.args.news.now = omega (arith, ahead, c.min.ensures, c.split_at.ensures.back_len, c.loop-event-test.true) in
    omega (arith, within, c.well_formed.1.0)

pub loop-event-preserved : goal.loop-event-preserved
loop-event-preserved c = saw_next c.args.self.now c.loop-event.self c.show.new.self c.split_at.result.1.now c.loop-event.event-index c.event-item.result c.loop-event-test.true c.event-item.is c.loop-event.invariant
    (subst (λ (m : Message). SawAll c.loop-event.self c.show.new.self (filter (λ x. is_name x.0) (as_shown_to m ∷ []))) c.message.ensures c.in_ok-show.ensures.ok) c.in_ok-show.ensures.kept

pub returns-clause-ok : goal.returns-clause-ok
returns-clause-ok c =
    saw_all c.args.self.now c.loop-event.self c.args.news.now c.split_at.result.1.now c.loop-event.event-index (c.split_at.ensures.back ∙ ap (λ n. drop n c.args.news.now) c.min.ensures) (omega (arith, c.loop-event-test.false)) c.loop-event.invariant

pub returns-clause-kept : goal.returns-clause-kept
returns-clause-kept c = c.loop-event.invariant.kept

pub returns-clause-so_far : goal.returns-clause-so_far
returns-clause-so_far c =
    saw_so_far c.args.self.now c.loop-event.self c.args.news.now c.split_at.result.1.now c.loop-event.event-index (c.split_at.ensures.back ∙ ap (λ n. drop n c.args.news.now) c.min.ensures) c.loop-event.invariant

pub returns-in_err-show-clause-so_far : goal.returns-in_err-show-clause-so_far
returns-in_err-show-clause-so_far c =
    saw_first c.args.self.now c.loop-event.self c.show.new.self c.args.news.now c.split_at.result.1.now c.loop-event.event-index (c.split_at.ensures.back ∙ ap (λ n. drop n c.args.news.now) c.min.ensures) c.loop-event.invariant c.in_err-show.ensures.err c.in_err-show.ensures.kept
