use Rattle.cb_schedules.proofs.GoingOn.{runs_go_on, runs_join, nothing_is_done}
use Rattle.cb_schedules.proofs.laws.runs.runs_go_on_step_by_step.Goals as goal

pub returns-clause-goes_on : goal.returns-clause-goes_on
returns-clause-goes_on c = runs_go_on

pub returns-clause-joins : goal.returns-clause-joins
returns-clause-joins c = runs_join

pub returns-clause-nothing : goal.returns-clause-nothing
returns-clause-nothing c = nothing_is_done
