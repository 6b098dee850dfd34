-- What a vector time is, seen as the list of its fields.
use Rattle.std.specs.Prelude.{◌≡◌, ℕ, ◌<◌, ◌^◌, List, ◌++◌, codes, length, map, max}
use Rattle.std.specs.Fmt.{decimal}
use Rattle.std.specs.List.{join_with_byte}
use Rattle.cb_times.specs.Group.{IsGroupSize}
use Rattle.cb_times.specs.Order.{field}

-- a time of a group of 2 to 64 members, whose fields are message numbers
pub record IsTime (time : List ℕ) : Type 0 where
  pub size : IsGroupSize (length time)
  pub in_range : (k : ℕ) → field time k < 2 ^ 32

-- the greater of the two at every field
pub record IsRaised (old other new : List ℕ) : Type 0 where
  pub size : length new ≡ length old
  pub each : (k : ℕ) → field new k ≡ max (field old k) (field other k)

-- the fields in decimal with a comma between each two, as in [1,0,2]
abbrev pub text_of : List ℕ → List ℕ
text_of time = codes "[" ++ join_with_byte 44 (map decimal time) ++ codes "]"
