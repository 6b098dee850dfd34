use Rattle.cb_causality.proofs.Extending.{causal_extends_runs, stamped_extends_runs, extension_erases, deliveries_extend, casts_extend}
use Rattle.cb_causality.proofs.laws.runs_are_extended_by_several_steps.Goals as goal

pub returns-clause-causal : goal.returns-clause-causal
returns-clause-causal c = causal_extends_runs

pub returns-clause-stamped : goal.returns-clause-stamped
returns-clause-stamped c = stamped_extends_runs

pub returns-clause-erased : goal.returns-clause-erased
returns-clause-erased c = extension_erases

pub returns-clause-in_turn : goal.returns-clause-in_turn
returns-clause-in_turn c = deliveries_extend

pub returns-clause-casts : goal.returns-clause-casts
returns-clause-casts c = casts_extend
