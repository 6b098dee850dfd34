use Rattle.std.proofs.Common.{◌≡◌, ◌++◌, map, drop}
use Rattle.cb_history.specs.Facts.{casts_in}
use Rattle.cb_reference.specs.Facts.{fact_of}
use Rattle.cb_reference.specs.Messages.{cast_of}
use Rattle.cb_reference.proofs.facts.casts_in.Given as goal

-- the casts so far, and those of the other facts
abbrev pub invariant-loop-fact : goal.invariant-loop-fact
invariant-loop-fact l = map cast_of l.casts.items ++ casts_in (map fact_of (drop l.fact-index l.facts)) ≡ casts_in (map fact_of l.facts)
