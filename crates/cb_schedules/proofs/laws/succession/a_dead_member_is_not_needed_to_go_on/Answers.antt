use Rattle.cb_schedules.proofs.SuccessionRounds.{a_dead_member_is_not_needed}
use Rattle.cb_schedules.proofs.laws.succession.a_dead_member_is_not_needed_to_go_on.Goals as goal

pub returns : goal.returns
returns c = a_dead_member_is_not_needed
