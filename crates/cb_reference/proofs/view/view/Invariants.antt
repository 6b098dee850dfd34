use Rattle.std.proofs.Common.{◌≡◌, map, drop}
use Rattle.cb_history.specs.View.{seen_from, view}
use Rattle.cb_reference.specs.Facts.{fact_of}
use Rattle.cb_reference.specs.Messages.{cast_of}
use Rattle.cb_reference.specs.Messages.{carried_of}
use Rattle.cb_reference.proofs.view.view.Given as goal

-- the other facts lead to the view
abbrev pub invariant-loop-fact : goal.invariant-loop-fact
invariant-loop-fact l =
    seen_from l.size (map cast_of l.casts.items) (map carried_of l.seen.items) (map fact_of (drop l.fact-index l.facts)) ≡ view l.size (map fact_of l.facts)
