use Rattle.cb_schedules.proofs.Headlines.{steps_extend_the_stamped, steps_extend_the_causal}
use Rattle.cb_schedules.proofs.laws.invariant.steps_extend_the_machines.Goals as goal

pub returns-clause-stamped : goal.returns-clause-stamped
returns-clause-stamped c = steps_extend_the_stamped

pub returns-clause-causal : goal.returns-clause-causal
returns-clause-causal c = steps_extend_the_causal
