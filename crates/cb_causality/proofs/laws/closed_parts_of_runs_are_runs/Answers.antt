use Rattle.cb_causality.proofs.Parts.{closed_parts_are_runs, closed_parts_keep_the_past}
use Rattle.cb_causality.proofs.laws.closed_parts_of_runs_are_runs.Goals as goal

pub returns-clause-run : goal.returns-clause-run
returns-clause-run c = closed_parts_are_runs

pub returns-clause-past : goal.returns-clause-past
returns-clause-past c = closed_parts_keep_the_past
