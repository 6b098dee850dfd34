use Rattle.cb_schedules.specs.SentLaws.{EventsHaveTimesFromBytes}
use Rattle.cb_schedules.proofs.Headlines.{each_schedule, times_from_bytes}
use Rattle.cb_world.proofs.world.World.events.Goals as goal

pub returns-in_err-member-clause-times : goal.returns-in_err-member-clause-times
returns-in_err-member-clause-times c = each_schedule EventsHaveTimesFromBytes times_from_bytes _ _ c.in_err-member.ensures.setting.is_setting

pub returns-clause-times : goal.returns-clause-times
returns-clause-times c = each_schedule EventsHaveTimesFromBytes times_from_bytes _ _ c.in_ok-member.ensures.setting.is_setting
