use Rattle.cb_schedules.proofs.Forgetting.{cores_run_as_members, no_core_is_full, full_histories_make_the_difference}
use Rattle.cb_schedules.proofs.laws.forgetting.cores_run_as_members_do.Goals as goal

pub returns-clause-alike : goal.returns-clause-alike
returns-clause-alike c = cores_run_as_members

pub returns-clause-full : goal.returns-clause-full
returns-clause-full c = no_core_is_full

pub returns-clause-difference : goal.returns-clause-difference
returns-clause-difference c = full_histories_make_the_difference
