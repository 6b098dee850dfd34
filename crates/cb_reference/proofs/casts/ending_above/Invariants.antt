use Rattle.std.proofs.Common.{◌≡◌, ◌++◌, ltb, map, drop}
use Rattle.std.specs.List.{filter}
use Rattle.cb_frames.specs.Fields.{CastFields, last_number}
use Rattle.cb_reference.specs.Messages.{cast_of}
use Rattle.cb_reference.proofs.casts.ending_above.Given as goal

-- those found so far, and those among the other casts
abbrev pub invariant-loop-cast : goal.invariant-loop-cast
invariant-loop-cast l =
    map cast_of l.ending.items ++ filter (λ (c : CastFields). ltb l.n (last_number c)) (map cast_of (drop l.cast-index l.casts))
    ≡ filter (λ (c : CastFields). ltb l.n (last_number c)) (map cast_of l.casts)
