-- How long the parts of payloads are.
use Rattle.std.proofs.Common.{ℕ, ◌<◌, ◌≤◌, ◌^◌, List, [], ◌∷◌, length, ap, arith, length-append}
use Rattle.cb_varint.specs.Spelling.{Spells}
use Rattle.cb_varint.specs.Reading.{spelling}
use Rattle.cb_varint.proofs.Spelled.{spelled}

spelled_in_five : (text : List ℕ) (n : ℕ) → Spells text n → length text ≤ 5
spelled_in_five text n s = omega (arith, ap length s.parts, length-append s.front (s.last ∷ []), s.at_most_five)

-- a number below 2 ^ 32 has at most five bytes
pub few_bytes : (n : ℕ) → n < 2 ^ 32 → length (spelling n) ≤ 5
few_bytes n small = spelled_in_five (spelling n) n (spelled n small)
