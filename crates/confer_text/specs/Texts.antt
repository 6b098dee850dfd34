-- How numbers and payloads are printed, and how much memory that takes.
use Rattle.std.specs.Prelude.{◌≡◌, ℕ, ◌+◌, ◌<◌, ◌≤◌, Bool, not, ◌&&◌, nat_le, ◌==◌, if◌then◌else◌, List, [], ◌∷◌, ◌++◌, drop, length, Result, Ok, Err}
use Rattle.std.specs.List.{list_all}
use Rattle.std.specs.Fmt.{decimal}
use Rattle.std.specs.Vec.{vec_capacity, vec_len}
use Rattle.std.specs.declared.vec.Vec.{Vec}
use Rattle.hex.specs.Hex.{encode_lower}

-- a number behind its words
unfoldable pub parameter_text : List ℕ → ℕ → List ℕ
parameter_text words number = words ++ decimal number

-- a byte that is printed as itself: from the space to the tilde, but no quotation mark and no backslash
abbrev pub is_plain : ℕ → Bool
is_plain b = nat_le 0x20 b && nat_le b 0x7e && not (b == 34) && not (b == 92)

-- a payload as text in quotation marks, or else as x and hexadecimal
abbrev pub payload_text : List ℕ → List ℕ
payload_text payload =
    if list_all is_plain payload then 34 ∷ payload ++ 34 ∷ [] else 120 ∷ encode_lower payload

-- A piece of at most so many bytes was put behind a text, or there was no room for so many: so with room for them it never fails.
abbrev pub PutsAtMost : {T A E : Type 0} → ℕ → Vec T A → Vec T A → Result (Unit {0}) E → Type 0
PutsAtMost most old new (Ok done) = (vec_len new ≤ vec_len old + most) × (vec_capacity old ≤ vec_capacity new)
PutsAtMost most old new (Err refused) = vec_capacity old < vec_len old + most

-- ---- a text that is written from its end to its front

-- the piece stands in front of what stood from `end` on
pub record Precedes (old : List ℕ) (end : ℕ) (new : List ℕ) (start : ℕ) (piece : List ℕ) : Type 0 where
  pub room : start + length piece ≡ end
  pub written : drop start new ≡ piece ++ drop end old

-- there is room for so many bytes
pub record HasRoomBefore (count : ℕ) (room : List ℕ) (end : ℕ) : Type 0 where
  pub bytes : count ≤ end
  pub within : end ≤ length room
