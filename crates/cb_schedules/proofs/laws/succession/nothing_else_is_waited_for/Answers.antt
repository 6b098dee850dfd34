use Rattle.cb_schedules.proofs.SuccessionRounds.{nothing_else_is_waited_for}
use Rattle.cb_schedules.proofs.laws.succession.nothing_else_is_waited_for.Goals as goal

pub returns : goal.returns
returns c = nothing_else_is_waited_for
