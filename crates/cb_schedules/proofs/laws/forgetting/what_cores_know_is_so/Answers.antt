use Rattle.cb_schedules.proofs.Cores.{one_name_of_cores_same_bytes, heard_of_by_cores_is_cast, stable_of_cores_is_delivered, stable_of_stands_in_events_of_cores, cores_stay_near}
use Rattle.cb_schedules.proofs.laws.forgetting.what_cores_know_is_so.Goals as goal

pub returns-clause-bytes : goal.returns-clause-bytes
returns-clause-bytes c = one_name_of_cores_same_bytes

pub returns-clause-heard_of : goal.returns-clause-heard_of
returns-clause-heard_of c = heard_of_by_cores_is_cast

pub returns-clause-stable : goal.returns-clause-stable
returns-clause-stable c = stable_of_cores_is_delivered

pub returns-clause-events : goal.returns-clause-events
returns-clause-events c = stable_of_stands_in_events_of_cores

pub returns-clause-near : goal.returns-clause-near
returns-clause-near c = cores_stay_near
