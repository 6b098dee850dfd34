use Rattle.std.proofs.Common.{◌≡◌, max, map, drop}
use Rattle.std.specs.List.{flat_map}
use Rattle.cb_history.specs.Known.{greatest_of, reported_by}
use Rattle.cb_reference.specs.Facts.{fact_of}
use Rattle.cb_reference.proofs.known.reported_in_statuses.Given as goal

-- the greatest number so far, or that of the other facts
abbrev pub invariant-loop-fact : goal.invariant-loop-fact
invariant-loop-fact l = max l.greatest (greatest_of (flat_map (reported_by l.k l.i) (map fact_of (drop l.fact-index l.facts)))) ≡ greatest_of (flat_map (reported_by l.k l.i) (map fact_of l.facts))
