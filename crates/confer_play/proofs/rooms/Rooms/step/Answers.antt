use Rattle.std.proofs.Common.{sym, subst}
use Rattle.std.proofs.lemmas.Result.{on_ok_weaker}
use Rattle.cb_world.specs.Steps.{step_fields}
use Rattle.cb_world.specs.World.{run_in}
use Rattle.confer_play.specs.Rooms.{AreNamed}
use Rattle.confer_play.proofs.Naming.{are_named}
use Rattle.confer_play.proofs.Shown.{step_shows, step_shows_nobody}
use Rattle.confer_play.proofs.rooms.Rooms.step.Goals as goal

-- what `events` answers are the events of the group after the step
pub catch_up-requires : goal.catch_up-requires
catch_up-requires c =
    subst AreNamed (sym c.in-Some.ensures.events) (are_named _ (run_in c.step.new.self) c.in_ok-step.ensures.setting.is_setting c.in_ok-step.ensures.causal _)

pub returns-in-None-clause-shown : goal.returns-in-None-clause-shown
returns-in-None-clause-shown c =
    step_shows_nobody c.args.self.now.world c.step.new.self (step_fields c.args.step.now) c.member-member.result c.args.self.now.attendances.items
    c.in_ok-step.ensures.step c.in_ok-step.ensures.setting.is_setting c.member-member.ensures c.in-None.ensures.events

pub returns-in-Some-clause-shown : goal.returns-in-Some-clause-shown
returns-in-Some-clause-shown c =
    on_ok_weaker c.catch_up.result
    (λ caught shown. step_shows c.args.self.now.world c.step.new.self (step_fields c.args.step.now) c.member-member.result c.in-Some.events.now
    c.args.self.now.attendances.items c.catch_up.new.attendances.items c.in_ok-step.ensures.step c.in_ok-step.ensures.setting.is_setting c.member-member.ensures
    c.in-Some.ensures.events caught shown)
    c.catch_up.ensures
