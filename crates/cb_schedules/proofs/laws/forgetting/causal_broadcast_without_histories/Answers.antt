use Rattle.cb_schedules.proofs.Forgetting.{runs_of_cores_go_on}
use Rattle.cb_schedules.proofs.Cores.{headline_of_cores, causal_broadcast_of_cores, cores_deliver_closed_arrivals, times_of_cores, each_step_of_cores_goes_on, no_arrival_is_refused}
use Rattle.cb_schedules.proofs.laws.forgetting.causal_broadcast_without_histories.Goals as goal

pub returns-clause-causal : goal.returns-clause-causal
returns-clause-causal c = causal_broadcast_of_cores

pub returns-clause-delivered : goal.returns-clause-delivered
returns-clause-delivered c = cores_deliver_closed_arrivals

pub returns-clause-times : goal.returns-clause-times
returns-clause-times c = times_of_cores

pub returns-clause-headline : goal.returns-clause-headline
returns-clause-headline c = headline_of_cores

pub returns-clause-goes_on : goal.returns-clause-goes_on
returns-clause-goes_on c = runs_of_cores_go_on

pub returns-clause-steps : goal.returns-clause-steps
returns-clause-steps c = each_step_of_cores_goes_on

pub returns-clause-arrivals : goal.returns-clause-arrivals
returns-clause-arrivals c = no_arrival_is_refused
