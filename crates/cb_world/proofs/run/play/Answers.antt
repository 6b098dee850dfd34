use Rattle.cb_schedules.specs.Headline.{Headline}
use Rattle.cb_schedules.specs.SentLaws.{StableOfStandsInEvents, StableStandsInEvents}
use Rattle.cb_schedules.proofs.Headlines.{each_schedule, headline_holds, stable_of_stands_in_events, stable_stands_in_events}
use Rattle.cb_world.specs.World.{run_in}
use Rattle.cb_world.proofs.run.play.Goals as goal

headline_of : (c : goal.After-finish) → Headline c.finish.result.setting (run_in c.finish.result)
headline_of c = each_schedule Headline headline_holds _ _ c.finish.ensures.setting.is_setting

pub returns-in-Ok-run_on-clause-causal : goal.returns-in-Ok-run_on-clause-causal
returns-in-Ok-run_on-clause-causal c = (headline_of c).causal

pub returns-in-Ok-run_on-clause-delivered : goal.returns-in-Ok-run_on-clause-delivered
returns-in-Ok-run_on-clause-delivered c = (headline_of c).delivered

pub returns-in-Ok-run_on-clause-times : goal.returns-in-Ok-run_on-clause-times
returns-in-Ok-run_on-clause-times c = (headline_of c).times

pub returns-in-Ok-run_on-clause-stable : goal.returns-in-Ok-run_on-clause-stable
returns-in-Ok-run_on-clause-stable c = each_schedule StableStandsInEvents stable_stands_in_events _ _ c.finish.ensures.setting.is_setting

pub returns-in-Ok-run_on-clause-stable_of : goal.returns-in-Ok-run_on-clause-stable_of
returns-in-Ok-run_on-clause-stable_of c = each_schedule StableOfStandsInEvents stable_of_stands_in_events _ _ c.finish.ensures.setting.is_setting
