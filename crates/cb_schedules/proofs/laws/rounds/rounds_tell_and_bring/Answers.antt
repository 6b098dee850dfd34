use Rattle.cb_schedules.proofs.RoundLaws.{everybody_hears, rounds_expand}
use Rattle.cb_schedules.proofs.laws.rounds.rounds_tell_and_bring.Goals as goal

pub returns-clause-heard : goal.returns-clause-heard
returns-clause-heard c = everybody_hears

pub returns-clause-expands : goal.returns-clause-expands
returns-clause-expands c = rounds_expand
