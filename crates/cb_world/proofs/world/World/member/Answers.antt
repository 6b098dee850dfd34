use Rattle.cb_schedules.specs.SentLaws.{StableIsDeliveredEverywhere, StableOfStandsInEvents}
use Rattle.cb_schedules.proofs.Headlines.{each_schedule, stable_is_delivered_everywhere, stable_of_stands_in_events}
use Rattle.cb_world.proofs.world.World.member.Goals as goal

pub returns-clause-stable : goal.returns-clause-stable
returns-clause-stable c = rw (← c.self.view_is) (each_schedule StableIsDeliveredEverywhere stable_is_delivered_everywhere _ _ c.self.invariant.setting_is.is_setting)

pub returns-clause-stable_of : goal.returns-clause-stable_of
returns-clause-stable_of c = rw (← c.self.view_is) (each_schedule StableOfStandsInEvents stable_of_stands_in_events _ _ c.self.invariant.setting_is.is_setting)
