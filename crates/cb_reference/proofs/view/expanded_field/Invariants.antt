use Rattle.std.proofs.Common.{◌≡◌, ◌+◌, ◌≤◌, map, min, drop}
use Rattle.std.specs.List.{sum_by}
use Rattle.cb_diffs.specs.Expansion.{greatest, growth_of}
use Rattle.cb_reference.specs.Messages.{cast_of}
use Rattle.cb_reference.proofs.view.expanded_field.Given as goal

-- the sum so far with what the other casts add
abbrev pub invariant-loop-cast : goal.invariant-loop-cast
invariant-loop-cast l =
    (l.sum ≤ greatest) × (min greatest (l.sum + sum_by (growth_of l.sender l.number l.k) (map cast_of (drop l.cast-index l.cast-items)))
    ≡ min greatest (sum_by (growth_of l.sender l.number l.k) l.casts))
