use Rattle.cb_schedules.proofs.RoundLaws.{then_nothing_changes, further_rounds_are_quiet}
use Rattle.cb_schedules.proofs.laws.rounds.then_nothing_changes_any_more.Goals as goal

pub returns-clause-nothing : goal.returns-clause-nothing
returns-clause-nothing c = then_nothing_changes

pub returns-clause-rounds : goal.returns-clause-rounds
returns-clause-rounds c = further_rounds_are_quiet
