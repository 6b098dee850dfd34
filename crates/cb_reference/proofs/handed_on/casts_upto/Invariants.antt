use Rattle.std.proofs.Common.{◌≡◌, ◌+◌, ◌-◌, ◌++◌, map}
use Rattle.std.specs.List.{flat_map, range_with_len}
use Rattle.cb_history.specs.Helping.{casts_at, casts_between}
use Rattle.cb_reference.specs.Messages.{cast_of}
use Rattle.cb_reference.proofs.handed_on.casts_upto.Given as goal

-- those found so far, and those that begin with one of the other numbers
abbrev pub invariant-loop-below : goal.invariant-loop-below
invariant-loop-below l =
    map cast_of l.found.items ++ flat_map (casts_at (map cast_of l.casts) l.i) (range_with_len (l.below + 1) (l.high - l.below))
    ≡ casts_between (map cast_of l.casts) l.i 0 l.high
