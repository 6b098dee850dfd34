use Rattle.cb_schedules.proofs.SuccessionRows.{takes_older_breaks, ends_once_breaks, no_compare_breaks, shows_all_breaks, cut_is_now_breaks, no_reserve_leaves_no_room}
use Rattle.cb_schedules.proofs.laws.succession.other_rules_are_wrong.Goals as goal

pub returns-clause-takes_older : goal.returns-clause-takes_older
returns-clause-takes_older c = takes_older_breaks

pub returns-clause-ends_once : goal.returns-clause-ends_once
returns-clause-ends_once c = ends_once_breaks

pub returns-clause-no_compare : goal.returns-clause-no_compare
returns-clause-no_compare c = no_compare_breaks

pub returns-clause-shows_all : goal.returns-clause-shows_all
returns-clause-shows_all c = shows_all_breaks

pub returns-clause-cut_is_now : goal.returns-clause-cut_is_now
returns-clause-cut_is_now c = cut_is_now_breaks

pub returns-clause-no_reserve : goal.returns-clause-no_reserve
returns-clause-no_reserve c = no_reserve_leaves_no_room
