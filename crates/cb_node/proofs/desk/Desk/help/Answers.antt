use Rattle.std.proofs.Common.{◌++◌, refl, ap, rules, tests, ◌∙◌}
use Rattle.cb_history.specs.State.{answer_to_help}
use Rattle.cb_node.specs.Course.{Stays}
use Rattle.cb_node.specs.Desk.{frame_of, state_in}
use Rattle.cb_node.specs.Kept.{KeptState}
use Rattle.cb_node.proofs.Asking.{help_more, helps_asked, helps_to_ask}
use Rattle.cb_node.proofs.Courses.{and_then}
use Rattle.cb_node.proofs.desk.Desk.help.Goals as goal

pub returns-in-Some-clause-goes : goal.returns-in-Some-clause-goes
returns-in-Some-clause-goes c = Stays _

pub loop-sender-init : goal.loop-sender-init
loop-sender-init c = (c.requires, Stays _, refl, c.in_default.is, helps_to_ask (state_in c.args.self.now).kept (state_in c.args.self.now).post)

pub loop-sender-preserved : goal.loop-sender-preserved
loop-sender-preserved c =
    let before = c.loop-sender.invariant in
    let old = state_in c.loop-sender.self in
    let asked = state_in c.ask.new.self in
    let kept = (state_in c.args.self.now).kept in
    let with_post : KeptState → KeptState = λ s. record s { post = asked.post } in
    let pushed = c.in_ok-ask.ensures.asked ∙ ap (λ (s : KeptState). old.post ++ frame_of (answer_to_help s.kept c.loop-sender.sender)) before.2 in (
      c.ask.ensures.desk,
      and_then _ _ _ before.1 c.ask.ensures.goes,
      c.ask.ensures.same ∙ ap with_post before.2,
      ap (λ (s : KeptState). s.fault) c.ask.ensures.same ∙ before.3,
      help_more kept kept.seat.group.size c.loop-sender.sender old.post asked.post _ (search (rules, tests)) pushed before.4,
    )

pub returns-in_err-ask-clause-goes : goal.returns-in_err-ask-clause-goes
returns-in_err-ask-clause-goes c = and_then _ _ _ c.loop-sender.invariant.1 c.ask.ensures.goes

pub returns-clause-asked : goal.returns-clause-asked
returns-clause-asked c =
    let kept = (state_in c.args.self.now).kept in
    helps_asked kept kept.seat.group.size c.loop-sender.sender _ _ (search (rules, tests)) c.loop-sender.invariant.4
