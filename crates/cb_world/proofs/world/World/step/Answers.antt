use Rattle.cb_schedules.specs.Headline.{Headline}
use Rattle.cb_schedules.specs.SentLaws.{StableOfStandsInEvents, StableStandsInEvents}
use Rattle.cb_schedules.proofs.Headlines.{each_schedule, headline_holds, stable_of_stands_in_events, stable_stands_in_events}
use Rattle.cb_world.specs.Steps.{step_fields}
use Rattle.cb_world.specs.World.{run_in}
use Rattle.cb_world.proofs.Stepping.{lists_go_on_by}
use Rattle.cb_world.proofs.world.World.step.Goals as goal

headline_of : (c : goal.After-take) → Headline c.take.new.self.setting (run_in c.take.new.self)
headline_of c = each_schedule Headline headline_holds _ _ c.take.ensures.setting.is_setting

pub returns-clause-causal : goal.returns-clause-causal
returns-clause-causal c = (headline_of c).causal

pub returns-clause-delivered : goal.returns-clause-delivered
returns-clause-delivered c = (headline_of c).delivered

pub returns-clause-times : goal.returns-clause-times
returns-clause-times c = (headline_of c).times

pub returns-clause-stable : goal.returns-clause-stable
returns-clause-stable c = each_schedule StableStandsInEvents stable_stands_in_events _ _ c.take.ensures.setting.is_setting

pub returns-clause-stable_of : goal.returns-clause-stable_of
returns-clause-stable_of c = each_schedule StableOfStandsInEvents stable_of_stands_in_events _ _ c.take.ensures.setting.is_setting

pub returns-clause-goes_on : goal.returns-clause-goes_on
returns-clause-goes_on c = lists_go_on_by c.take.result c.args.self.now c.take.new.self (step_fields c.args.step.now) c.take.ensures.setting.is_setting c.take.ensures.step c.take.ensures.same

pub returns-clause-setting : goal.returns-clause-setting
returns-clause-setting c = c.take.ensures.setting
