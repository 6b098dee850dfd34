use Rattle.cb_schedules.proofs.RoundLaws.{rounds_are_steps, nobody_casts}
use Rattle.cb_schedules.proofs.laws.rounds.rounds_are_steps_of_a_schedule.Goals as goal

pub returns-clause-steps : goal.returns-clause-steps
returns-clause-steps c = rounds_are_steps

pub returns-clause-casts : goal.returns-clause-casts
returns-clause-casts c = nobody_casts
