use Rattle.cb_gaps.proofs.ComingOut.{kept_come_out, taking_leaves_the_rest, none_is_left}
use Rattle.cb_gaps.proofs.laws.casts_come_out_as_reported.Goals as goal

pub returns-clause-kept : goal.returns-clause-kept
returns-clause-kept c = kept_come_out

pub returns-clause-rest : goal.returns-clause-rest
returns-clause-rest c = taking_leaves_the_rest

pub returns-clause-none : goal.returns-clause-none
returns-clause-none c = none_is_left
