use Rattle.cb_schedules.proofs.RestartLaws.{what_is_written_is_legal}
use Rattle.cb_schedules.proofs.laws.restarts.what_is_written_can_be_resumed.Goals as goal

pub returns : goal.returns
returns c = what_is_written_is_legal
