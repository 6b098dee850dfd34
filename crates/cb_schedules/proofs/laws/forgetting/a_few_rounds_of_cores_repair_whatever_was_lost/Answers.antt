use Rattle.cb_schedules.proofs.CoreRounds.{cores_have_everything, cores_have_the_same, cores_miss_nothing, cores_make_stable, cores_tell_what_is_stable, cores_change_no_more}
use Rattle.cb_schedules.proofs.laws.forgetting.a_few_rounds_of_cores_repair_whatever_was_lost.Goals as goal

pub returns-clause-delivered : goal.returns-clause-delivered
returns-clause-delivered c = cores_have_everything

pub returns-clause-same : goal.returns-clause-same
returns-clause-same c = cores_have_the_same

pub returns-clause-missing : goal.returns-clause-missing
returns-clause-missing c = cores_miss_nothing

pub returns-clause-stable : goal.returns-clause-stable
returns-clause-stable c = cores_make_stable

pub returns-clause-known : goal.returns-clause-known
returns-clause-known c = cores_tell_what_is_stable

pub returns-clause-nothing : goal.returns-clause-nothing
returns-clause-nothing c = cores_change_no_more
