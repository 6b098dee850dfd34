use Rattle.cb_schedules.proofs.Headlines.{arrivals_are_welcome}
use Rattle.cb_schedules.proofs.laws.knowledge.arrivals_are_welcome.Goals as goal

pub returns : goal.returns
returns c = arrivals_are_welcome
