use Rattle.cb_schedules.proofs.Cores.{nothing_cores_lack_is_forgotten, nothing_cores_lack_is_freed}
use Rattle.cb_schedules.proofs.laws.help.nothing_that_cores_lack_is_forgotten.Goals as goal

pub returns-clause-handed_on : goal.returns-clause-handed_on
returns-clause-handed_on c = nothing_cores_lack_is_forgotten

pub returns-clause-window : goal.returns-clause-window
returns-clause-window c = nothing_cores_lack_is_freed
