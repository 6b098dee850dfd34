use Rattle.cb_schedules.specs.SentLaws.{DeliveredIsCast, HeardOfIsCast, TimesTellOwnCasts}
use Rattle.cb_schedules.proofs.Headlines.{each_schedule, delivered_is_cast, heard_of_is_cast, times_tell_own_casts}
use Rattle.cb_schedules.proofs.laws.knowledge.what_is_heard_of_is_cast.Goals as goal

pub returns-clause-delivered : goal.returns-clause-delivered
returns-clause-delivered c = each_schedule DeliveredIsCast delivered_is_cast

pub returns-clause-heard_of : goal.returns-clause-heard_of
returns-clause-heard_of c = each_schedule HeardOfIsCast heard_of_is_cast

pub returns-clause-times : goal.returns-clause-times
returns-clause-times c = each_schedule TimesTellOwnCasts times_tell_own_casts
