use Rattle.std.proofs.Common.{◌≡◌, ◌-◌, ◌++◌, length, map}
use Rattle.std.specs.List.{filter, range_with_len}
use Rattle.cb_member.specs.Telling.{values_saying}
use Rattle.cb_member.proofs.Telling.{value_at, is_not_zero}
use Rattle.cb_member.proofs.tick.values_of.Given as goal

-- the values so far, and those of the other fields
abbrev pub invariant-loop-field : goal.invariant-loop-field
invariant-loop-field l = l.values.items ++ filter is_not_zero (map (value_at l.time) (range_with_len l.field (length l.time - l.field))) ≡ values_saying l.time
