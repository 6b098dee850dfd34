use Rattle.std.proofs.Common.{◌≡◌, ◌++◌, map, drop}
use Rattle.cb_history.specs.Facts.{entry_fields, facts_of}
use Rattle.cb_reference.specs.Facts.{fact_of}
use Rattle.cb_reference.proofs.facts.facts_of.Given as goal

-- the facts so far, and what the other entries say
abbrev pub invariant-loop-entry : goal.invariant-loop-entry
invariant-loop-entry l = map fact_of l.facts.items ++ facts_of (map entry_fields (drop l.entry-index l.entries)) ≡ facts_of (map entry_fields l.entries)
