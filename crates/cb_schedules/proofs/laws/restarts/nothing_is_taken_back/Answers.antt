use Rattle.cb_schedules.proofs.RestartLaws.{steps_take_nothing_back, what_is_written_is_handed_out}
use Rattle.cb_schedules.proofs.laws.restarts.nothing_is_taken_back.Goals as goal

pub returns-clause-back : goal.returns-clause-back
returns-clause-back c = steps_take_nothing_back

pub returns-clause-shown : goal.returns-clause-shown
returns-clause-shown c = what_is_written_is_handed_out
