use Rattle.cb_schedules.specs.SuccessionLaws.{TheCutIsDelivered, WhoIsListedHasEnded}
use Rattle.cb_schedules.proofs.Successions.{each_succession, the_cut_is_delivered, who_is_listed_has_ended}
use Rattle.cb_schedules.proofs.laws.succession.the_old_group_is_not_needed.Goals as goal

pub returns-clause-delivered : goal.returns-clause-delivered
returns-clause-delivered c = each_succession TheCutIsDelivered the_cut_is_delivered

pub returns-clause-listed : goal.returns-clause-listed
returns-clause-listed c = each_succession WhoIsListedHasEnded who_is_listed_has_ended
