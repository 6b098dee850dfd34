use Rattle.cb_causality.proofs.Runs.{step_keeps_paths}
use Rattle.cb_causality.proofs.laws.steps_keep_the_past.Goals as goal

pub returns : goal.returns
returns c = step_keeps_paths
