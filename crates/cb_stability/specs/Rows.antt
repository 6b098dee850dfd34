-- How the acknowledgements are kept: a row of counts for each member.
use Rattle.std.specs.Prelude.{◌≡◌, ℕ, List, length, All}
use Rattle.cb_times.specs.Group.{IsGroupSize}
use Rattle.cb_stability.specs.Known.{Known}

pub record AreRows (rows : List (List ℕ)) : Type 0 where
  pub group : IsGroupSize (length rows)
  pub square : All (λ row. length row ≡ length rows) rows

-- what is known by these rows
abbrev pub known_of : List (List ℕ) → Known
known_of rows = record { size = length rows; delivered = rows }
