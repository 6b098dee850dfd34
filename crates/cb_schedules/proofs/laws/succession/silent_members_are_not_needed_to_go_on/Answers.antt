use Rattle.cb_schedules.proofs.RoundsAmongLaws.{given_act_alone, rounds_cast_nothing, rounds_among_bring_all}
use Rattle.cb_schedules.proofs.SuccessionRounds.{silent_members_are_not_needed}
use Rattle.cb_schedules.proofs.laws.succession.silent_members_are_not_needed_to_go_on.Goals as goal

pub returns-clause-alone : goal.returns-clause-alone
returns-clause-alone c = given_act_alone

pub returns-clause-quiet : goal.returns-clause-quiet
returns-clause-quiet c = rounds_cast_nothing

pub returns-clause-had : goal.returns-clause-had
returns-clause-had c = rounds_among_bring_all

pub returns-clause-begin : goal.returns-clause-begin
returns-clause-begin c = silent_members_are_not_needed
