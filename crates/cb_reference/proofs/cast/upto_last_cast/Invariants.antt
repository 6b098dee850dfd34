use Rattle.std.proofs.Common.{◌≡◌, map, length}
use Rattle.cb_history.specs.Answers.{upto_last_cast}
use Rattle.cb_reference.specs.Facts.{fact_of}
use Rattle.cb_reference.proofs.cast.upto_last_cast.Given as goal

-- what is cut off has no own cast
abbrev pub invariant-back : goal.invariant-back
invariant-back l = upto_last_cast (map fact_of l.front) ≡ upto_last_cast (map fact_of l.facts)

abbrev pub decreases-back : goal.decreases-back
decreases-back l = length l.front
