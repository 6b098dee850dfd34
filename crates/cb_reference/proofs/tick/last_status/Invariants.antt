use Rattle.std.proofs.Common.{◌≡◌, None, map, drop}
use Rattle.cb_history.specs.Answers.{last_status}
use Rattle.cb_reference.specs.Facts.{fact_of, as_status}
use Rattle.cb_reference.proofs.tick.last_status.Given as goal

-- the other facts may still have a later one
abbrev pub invariant-loop-fact : goal.invariant-loop-fact
invariant-loop-fact l = last_status (map fact_of (drop l.fact-index l.facts)) (as_status l.last) ≡ last_status (map fact_of l.facts) None
