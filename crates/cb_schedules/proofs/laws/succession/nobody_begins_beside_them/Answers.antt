use Rattle.cb_schedules.specs.SuccessionLaws.{NobodyBeginsByALaterPlan, OneNumberHasOneText, TheLastListGoesOneWay}
use Rattle.cb_schedules.proofs.Successions.{each_succession, nobody_begins_by_a_later_plan, one_number_has_one_text, the_last_list_goes_one_way}
use Rattle.cb_schedules.proofs.laws.succession.nobody_begins_beside_them.Goals as goal

pub returns-clause-one : goal.returns-clause-one
returns-clause-one c = each_succession NobodyBeginsByALaterPlan nobody_begins_by_a_later_plan

pub returns-clause-text : goal.returns-clause-text
returns-clause-text c = each_succession OneNumberHasOneText one_number_has_one_text

pub returns-clause-last : goal.returns-clause-last
returns-clause-last c = each_succession TheLastListGoesOneWay the_last_list_goes_one_way
