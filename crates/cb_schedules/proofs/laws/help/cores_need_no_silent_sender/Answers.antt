use Rattle.cb_schedules.proofs.CoreHelpRounds.{other_cores_have_the_same, other_cores_have_what_any_had}
use Rattle.cb_schedules.proofs.laws.help.cores_need_no_silent_sender.Goals as goal

pub returns-clause-same : goal.returns-clause-same
returns-clause-same c = other_cores_have_the_same

pub returns-clause-had : goal.returns-clause-had
returns-clause-had c = other_cores_have_what_any_had
