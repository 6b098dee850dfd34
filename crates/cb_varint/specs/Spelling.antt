-- Which bytes spell which number, and what is wrong with bytes that begin with no number's spelling.
use Rattle.std.specs.Prelude.{◌≡◌, ◌≢◌, ℕ, ◌*◌, ◌%◌, ◌^◌, ◌<◌, ◌≤◌, List, [], ◌∷◌, ◌++◌, length}
use Rattle.std.specs.List.{AllByRecursion, enumerate_from, sum_by}
use Rattle.cb_varint.specs.declared.fault.NumberFault.{NumberFault}
use Rattle.cb_varint.specs.declared.fault.NumberFault.TheVariants.{Short, NotMinimal, TooLarge}

-- the seven low bits of the byte at a place, worth 128 to that place
abbrev pub share : ℕ × ℕ → ℕ
share e = e.1 % 128 * 128 ^ e.0

-- what the bytes are worth together
abbrev pub value_of : List ℕ → ℕ
value_of text = sum_by share (enumerate_from 0 text)

-- a byte with its top bit set: another one follows
abbrev pub HasTopBit : ℕ → Type 0
HasTopBit b = (128 ≤ b) × (b < 256)

-- The text spells n: one to five bytes, each but the last with its top bit set, no shorter text of the same worth.
pub record Spells (text : List ℕ) (n : ℕ) : Type 0 where
  pub front : List ℕ
  pub last : ℕ
  pub parts : text ≡ front ++ last ∷ []
  pub more : AllByRecursion HasTopBit front
  pub ends : last < 128
  pub at_most_five : length front ≤ 4
  pub shortest : 0 < length front → last ≢ 0
  pub worth : n ≡ value_of text
  pub fits : n < 2 ^ 32

-- the spelling of n was appended
abbrev pub AppendsSpelling : List ℕ → List ℕ → ℕ → Type 0
AppendsSpelling old new n = (text : List ℕ) × Spells text n × (new ≡ old ++ text)

-- What is wrong with bytes at whose front no number is spelled.
abbrev pub IsFault : NumberFault → List ℕ → Type 0
-- four bytes with their top bit set, and a fifth that no number below 2 ^ 32 has there
IsFault TooLarge bytes = (front rest : List ℕ) × (fifth : ℕ) × (bytes ≡ front ++ fifth ∷ rest)
    × (length front ≡ 4) × AllByRecursion HasTopBit front × (15 < fifth)
-- the bytes end, and each asks for another one
IsFault Short bytes = (length bytes ≤ 4) × AllByRecursion HasTopBit bytes
-- the last byte of two or more adds nothing
IsFault NotMinimal bytes = (front rest : List ℕ) × (bytes ≡ front ++ 0 ∷ rest)
    × (0 < length front) × (length front ≤ 4) × AllByRecursion HasTopBit front
