use Rattle.cb_diffs.proofs.Growing.{GrownSoFar}
use Rattle.cb_diffs.proofs.expander.grow.Given as goal

abbrev pub invariant-loop-change : goal.invariant-loop-change
invariant-loop-change l = GrownSoFar l.fn.time l.time l.changes l.change-index
