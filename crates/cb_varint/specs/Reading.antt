-- Both directions as functions, for definitions of the layers above. `Laws` ties them to the spelling.
use Rattle.std.specs.Prelude.{ℕ, zero, suc, ◌+◌, ◌*◌, ◌/◌, ◌%◌, ◌-◌, List, [], ◌∷◌, Result, Ok, Err, nat_lt, ◌==◌, ◌&&◌, if◌then◌else◌}
use Rattle.cb_varint.specs.declared.fault.NumberFault.{NumberFault}
use Rattle.cb_varint.specs.declared.fault.NumberFault.TheVariants.{Short, NotMinimal, TooLarge}

-- a number whose first byte is b, and how many bytes it has, from those of the bytes behind it
abbrev pub behind : ℕ → Result (ℕ × ℕ) NumberFault → Result (ℕ × ℕ) NumberFault
behind b (Ok found) = Ok (b - 128 + 128 * found.0, found.1 + 1)
behind b (Err fault) = Err fault

-- what the bytes from place k on add: a number and how many bytes it has, or the first fault
abbrev pub groups_at : ℕ → List ℕ → Result (ℕ × ℕ) NumberFault
groups_at k [] = Err Short
groups_at k (b ∷ bytes) =
    if k == 4 && nat_lt 15 b then Err TooLarge else
    if nat_lt b 128 then (if b == 0 && nat_lt 0 k then Err NotMinimal else Ok (b, 1)) else
    behind b (groups_at (k + 1) bytes)

-- the number at the front and how many bytes it has, or its fault
unfoldable pub number_at : List ℕ → Result (ℕ × ℕ) NumberFault
number_at bytes = groups_at 0 bytes

-- n in at most this many bytes and one
abbrev pub groups_of : ℕ → ℕ → List ℕ
groups_of zero n = n ∷ []
groups_of (suc more) n = if nat_lt n 128 then n ∷ [] else (n % 128 + 128) ∷ groups_of more (n / 128)

-- the one spelling of a number below 2 ^ 32
unfoldable pub spelling : ℕ → List ℕ
spelling n = groups_of 4 n
