use Rattle.std.proofs.Common.{◌≡◌, ◌+◌, ◌≤◌, min, drop}
use Rattle.cb_frames.specs.Fields.{growth_in}
use Rattle.cb_diffs.specs.Expansion.{greatest}
use Rattle.cb_reference.proofs.view.growth_in.Given as goal

-- the growth so far with that of the other changes
abbrev pub invariant-loop-change : goal.invariant-loop-change
invariant-loop-change l = (l.growth ≤ greatest) × (min greatest (l.growth + growth_in (drop l.change-index l.changes) l.k) ≡ min greatest (growth_in l.changes l.k))
