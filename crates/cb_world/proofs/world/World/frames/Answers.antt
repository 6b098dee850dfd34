use Rattle.cb_schedules.specs.SentLaws.{OneNameSameBytes}
use Rattle.cb_schedules.proofs.Headlines.{each_schedule, one_name_same_bytes}
use Rattle.cb_world.proofs.world.World.frames.Goals as goal

pub returns-clause-bytes : goal.returns-clause-bytes
returns-clause-bytes c = rw (← c.self.view_is) (each_schedule OneNameSameBytes one_name_same_bytes _ _ c.self.invariant.setting_is.is_setting)
