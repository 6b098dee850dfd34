-- Of a sender the least count of the others, and how many have just that.
use Rattle.std.specs.Prelude.{◌≡◌, Bool, ℕ, zero, suc, ◌+◌, ◌<◌, ◌≤◌, ◌==◌, ◌&&◌, not, nat_lt, if◌then◌else◌, List, length}
use Rattle.cb_stability.specs.declared.acks.Minimum.{Minimum}
use Rattle.cb_stability.specs.Known.{Known, count, IsStable}
use Rattle.cb_stability.specs.Rows.{known_of}

abbrev pub minimum : ℕ → ℕ → Minimum
minimum least standing = record { least = least; standing = standing }

-- one where it holds, none where not
abbrev pub one_if : Bool → ℕ
one_if b = if b then 1 else 0

-- how many of the first n members, the sender i left out, have just this count
unfoldable pub standing_at : Known → ℕ → ℕ → ℕ → ℕ
standing_at known i c zero = 0
standing_at known i c (suc n) = standing_at known i c n + one_if (not (n == i) && (count known n i == c))

-- of the others' counts of the sender i it is the least, and it says how many have just that: some
pub record IsMinimum (rows : List (List ℕ)) (i : ℕ) (m : Minimum) : Type 0 where
  pub stable : IsStable (known_of rows) i m.least
  pub standing : m.standing ≡ standing_at (known_of rows) i m.least (length rows)
  pub some : 0 < m.standing

-- it was that before one of the others, who had this count, rose above it
pub record IsBeforeRise (rows : List (List ℕ)) (i count : ℕ) (m : Minimum) : Type 0 where
  pub stable : IsStable (known_of rows) i m.least
  pub within : m.least ≤ count
  pub standing : m.standing ≡ standing_at (known_of rows) i m.least (length rows) + one_if (count == m.least)
  pub some : 0 < m.standing

-- with one more count
abbrev pub minimum_with : Minimum → ℕ → Minimum
minimum_with m count =
    if nat_lt count m.least then minimum count 1
    else (if count == m.least then minimum count (m.standing + 1) else m)
