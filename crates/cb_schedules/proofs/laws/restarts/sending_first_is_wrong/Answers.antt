use Rattle.cb_schedules.proofs.RestartRows.{sending_first_uses_a_name_twice, handing_out_first_is_taken_back}
use Rattle.cb_schedules.proofs.laws.restarts.sending_first_is_wrong.Goals as goal

pub returns-clause-twice : goal.returns-clause-twice
returns-clause-twice c = sending_first_uses_a_name_twice

pub returns-clause-back : goal.returns-clause-back
returns-clause-back c = handing_out_first_is_taken_back
