use Rattle.cb_schedules.proofs.RoundLaws.{rounds_deliver, then_all_have_the_same, then_nothing_is_missing, still_causal, these_are_few}
use Rattle.cb_schedules.proofs.laws.rounds.a_few_rounds_repair_whatever_was_lost.Goals as goal

pub returns-clause-delivered : goal.returns-clause-delivered
returns-clause-delivered c = rounds_deliver

pub returns-clause-same : goal.returns-clause-same
returns-clause-same c = then_all_have_the_same

pub returns-clause-causal : goal.returns-clause-causal
returns-clause-causal c = still_causal

pub returns-clause-missing : goal.returns-clause-missing
returns-clause-missing c = then_nothing_is_missing

pub returns-clause-few : goal.returns-clause-few
returns-clause-few c = these_are_few
