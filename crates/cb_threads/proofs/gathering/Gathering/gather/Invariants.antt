use Rattle.cb_threads.specs.Bundles.{IsBundle}
use Rattle.cb_threads.proofs.gathering.Gathering.gather.Given as goal

abbrev pub invariant-loop : goal.invariant-loop
invariant-loop g l = IsBundle l.bundle
