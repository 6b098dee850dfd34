use Rattle.std.proofs.Common.{◌≡◌, ◌-◌, ◌++◌, map}
use Rattle.std.specs.List.{filter, range_with_len}
use Rattle.cb_reference.specs.Messages.{carried_of}
use Rattle.cb_reference.proofs.Ticking.{value_at, is_not_zero}
use Rattle.cb_reference.proofs.tick.values_of.Given as goal

-- the values so far, and those of the other fields
abbrev pub invariant-loop-field : goal.invariant-loop-field
invariant-loop-field l =
    l.values.items ++ filter is_not_zero (map (value_at (map carried_of l.seen)) (range_with_len l.field (l.size - l.field)))
    ≡ filter is_not_zero (map (value_at (map carried_of l.seen)) (range_with_len 0 l.size))
