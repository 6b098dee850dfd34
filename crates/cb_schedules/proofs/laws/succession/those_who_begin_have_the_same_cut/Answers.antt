use Rattle.cb_schedules.specs.SuccessionLaws.{TheCutCanBeFollowed, ExactlyTheCutIsShown, TheSameIsShown, WhatWasShownIsInTheCut, TheCutIsOneVector, TheCutIsCausal, CastsAreInTheCut}
use Rattle.cb_schedules.proofs.Successions.{each_succession, the_cut_can_be_followed, exactly_the_cut_is_shown, the_same_is_shown, what_was_shown_is_in_the_cut, the_cut_is_one_vector, the_cut_is_causal, casts_are_in_the_cut, shown_lists_go_on}
use Rattle.cb_schedules.proofs.laws.succession.those_who_begin_have_the_same_cut.Goals as goal

pub returns-clause-same : goal.returns-clause-same
returns-clause-same c = each_succession ExactlyTheCutIsShown exactly_the_cut_is_shown

pub returns-clause-before : goal.returns-clause-before
returns-clause-before c = each_succession WhatWasShownIsInTheCut what_was_shown_is_in_the_cut

pub returns-clause-vector : goal.returns-clause-vector
returns-clause-vector c = each_succession TheCutIsOneVector the_cut_is_one_vector

pub returns-clause-causal : goal.returns-clause-causal
returns-clause-causal c = each_succession TheCutIsCausal the_cut_is_causal

pub returns-clause-casts : goal.returns-clause-casts
returns-clause-casts c = each_succession CastsAreInTheCut casts_are_in_the_cut

pub returns-clause-kept : goal.returns-clause-kept
returns-clause-kept c = shown_lists_go_on

pub returns-clause-alike : goal.returns-clause-alike
returns-clause-alike c = each_succession TheSameIsShown the_same_is_shown

pub returns-clause-whole : goal.returns-clause-whole
returns-clause-whole c = each_succession TheCutCanBeFollowed the_cut_can_be_followed
