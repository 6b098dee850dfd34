use Rattle.cb_schedules.proofs.RoundLaws.{rounds_make_stable, rounds_tell_what_is_stable}
use Rattle.cb_schedules.proofs.laws.rounds.one_round_more_makes_everything_stable.Goals as goal

pub returns-clause-stable : goal.returns-clause-stable
returns-clause-stable c = rounds_make_stable

pub returns-clause-known : goal.returns-clause-known
returns-clause-known c = rounds_tell_what_is_stable
