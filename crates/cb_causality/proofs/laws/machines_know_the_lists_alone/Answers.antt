use Rattle.cb_causality.specs.CausalMachine.{Run, Step}
use Rattle.cb_causality.specs.Lists.{Appends}
use Rattle.cb_causality.specs.StampedMachine.{StampedRun, StampedStep}
use Rattle.cb_causality.proofs.Agreement.{depends_on_lists_alone, relates_lists_alone}
use Rattle.cb_causality.proofs.laws.machines_know_the_lists_alone.Goals as goal

pub returns-clause-run : goal.returns-clause-run
returns-clause-run c = λ size. depends_on_lists_alone (Run size)

pub returns-clause-stamped_run : goal.returns-clause-stamped_run
returns-clause-stamped_run c = λ size. depends_on_lists_alone (StampedRun size)

pub returns-clause-step : goal.returns-clause-step
returns-clause-step c = λ size. relates_lists_alone (Step size)

pub returns-clause-stamped_step : goal.returns-clause-stamped_step
returns-clause-stamped_step c = λ size. relates_lists_alone (StampedStep size)

pub returns-clause-appends : goal.returns-clause-appends
returns-clause-appends c = λ i event. relates_lists_alone (λ before after. Appends before after i event)

pub returns-clause-stamped_appends : goal.returns-clause-stamped_appends
returns-clause-stamped_appends c = λ i event. relates_lists_alone (λ before after. Appends before after i event)
