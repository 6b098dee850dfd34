use Rattle.cb_schedules.proofs.CatchingUp.{schedules_can_be_journaled}
use Rattle.cb_schedules.proofs.laws.restarts.schedules_can_be_journaled.Goals as goal

pub returns : goal.returns
returns c = schedules_can_be_journaled
