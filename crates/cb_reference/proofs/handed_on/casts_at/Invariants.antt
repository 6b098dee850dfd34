use Rattle.std.proofs.Common.{◌≡◌, ◌++◌, map, drop}
use Rattle.cb_history.specs.Helping.{casts_at}
use Rattle.cb_reference.specs.Messages.{cast_of}
use Rattle.cb_reference.proofs.handed_on.casts_at.Given as goal

-- those found so far, and those among the other casts
abbrev pub invariant-loop-cast : goal.invariant-loop-cast
invariant-loop-cast l = map cast_of l.found.items ++ casts_at (map cast_of (drop l.cast-index l.casts)) l.i l.n ≡ casts_at (map cast_of l.casts) l.i l.n
