use Rattle.std.proofs.Common.{◌≡◌, ◌++◌, map, drop}
use Rattle.cb_history.specs.Answers.{own_casts}
use Rattle.cb_reference.specs.Facts.{fact_of}
use Rattle.cb_reference.specs.Messages.{cast_of}
use Rattle.cb_reference.proofs.arrival.request.own_casts.Given as goal

-- the casts so far, and those among the other facts
abbrev pub invariant-loop-fact : goal.invariant-loop-fact
invariant-loop-fact l = map cast_of l.casts.items ++ own_casts (map fact_of (drop l.fact-index l.facts)) ≡ own_casts (map fact_of l.facts)
