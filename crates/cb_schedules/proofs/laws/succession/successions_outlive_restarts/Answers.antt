use Rattle.cb_schedules.specs.SuccessionLaws.{TheCutCanBeFollowed, ExactlyTheCutIsShown, TheSameIsShown, WhatWasShownIsInTheCut, TheCutIsOneVector, TheCutIsCausal, CastsAreInTheCut, NobodyBeginsByALaterPlan, OneNumberHasOneText, TheLastListGoesOneWay, TheCutIsDelivered, WhoIsListedHasEnded}
use Rattle.cb_schedules.proofs.Successions.{the_cut_can_be_followed, exactly_the_cut_is_shown, the_same_is_shown, what_was_shown_is_in_the_cut, the_cut_is_one_vector, the_cut_is_causal, casts_are_in_the_cut, nobody_begins_by_a_later_plan, one_number_has_one_text, the_last_list_goes_one_way, the_cut_is_delivered, who_is_listed_has_ended}
use Rattle.cb_schedules.proofs.SuccessionRestarts.{each_journaled_succession, what_was_shown_outlives_restarts}
use Rattle.cb_schedules.proofs.laws.succession.successions_outlive_restarts.Goals as goal

pub returns-clause-same : goal.returns-clause-same
returns-clause-same c = each_journaled_succession ExactlyTheCutIsShown exactly_the_cut_is_shown

pub returns-clause-alike : goal.returns-clause-alike
returns-clause-alike c = each_journaled_succession TheSameIsShown the_same_is_shown

pub returns-clause-before : goal.returns-clause-before
returns-clause-before c = each_journaled_succession WhatWasShownIsInTheCut what_was_shown_is_in_the_cut

pub returns-clause-vector : goal.returns-clause-vector
returns-clause-vector c = each_journaled_succession TheCutIsOneVector the_cut_is_one_vector

pub returns-clause-causal : goal.returns-clause-causal
returns-clause-causal c = each_journaled_succession TheCutIsCausal the_cut_is_causal

pub returns-clause-casts : goal.returns-clause-casts
returns-clause-casts c = each_journaled_succession CastsAreInTheCut casts_are_in_the_cut

pub returns-clause-one : goal.returns-clause-one
returns-clause-one c = each_journaled_succession NobodyBeginsByALaterPlan nobody_begins_by_a_later_plan

pub returns-clause-text : goal.returns-clause-text
returns-clause-text c = each_journaled_succession OneNumberHasOneText one_number_has_one_text

pub returns-clause-last : goal.returns-clause-last
returns-clause-last c = each_journaled_succession TheLastListGoesOneWay the_last_list_goes_one_way

pub returns-clause-delivered : goal.returns-clause-delivered
returns-clause-delivered c = each_journaled_succession TheCutIsDelivered the_cut_is_delivered

pub returns-clause-listed : goal.returns-clause-listed
returns-clause-listed c = each_journaled_succession WhoIsListedHasEnded who_is_listed_has_ended

pub returns-clause-kept : goal.returns-clause-kept
returns-clause-kept c = what_was_shown_outlives_restarts

pub returns-clause-whole : goal.returns-clause-whole
returns-clause-whole c = each_journaled_succession TheCutCanBeFollowed the_cut_can_be_followed
