use Rattle.cb_schedules.proofs.Headlines.{arrivals_are_welcome}
use Rattle.cb_world.proofs.world.World.outcomes.Goals as goal

pub returns-clause-welcome : goal.returns-clause-welcome
returns-clause-welcome c = rw (← c.self.view_is) (arrivals_are_welcome _ _ c.self.invariant.setting_is.is_setting)
