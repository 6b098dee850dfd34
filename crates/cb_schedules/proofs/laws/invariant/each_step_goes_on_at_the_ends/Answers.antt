use Rattle.cb_schedules.proofs.StepByStep.{lists_go_on}
use Rattle.cb_schedules.proofs.laws.invariant.each_step_goes_on_at_the_ends.Goals as goal

pub returns : goal.returns
returns c = lists_go_on
