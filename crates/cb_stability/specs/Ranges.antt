-- The numbers that ranges name. Both ends belong to a range; one whose last number is below its first is empty.
use Rattle.std.specs.Prelude.{ℕ, Bool, ◌&&◌, List, min, max, nat_le}
use Rattle.std.specs.List.{list_any}
use Rattle.cb_frames.specs.declared.frame.Range.{Range}

abbrev pub is_in : ℕ → Range → Bool
is_in number range = nat_le range.first number && nat_le number range.last

abbrev pub is_in_some : List Range → ℕ → Bool
is_in_some ranges number = list_any (is_in number) ranges

-- one of the numbers from first to last is in the range
abbrev pub meets : ℕ → ℕ → Range → Bool
meets first last range = nat_le (max first range.first) (min last range.last)
