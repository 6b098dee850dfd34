-- The laws of numbers on the wire.
use Rattle.std.specs.Prelude.{◌≡◌, ℕ, ◌<◌, ◌^◌, ◌++◌, ◌↔◌, List}
use Rattle.cb_varint.specs.Spelling.{Spells}
use Rattle.cb_varint.specs.Reading.{spelling}

-- one number has one spelling
abbrev pub OneSpelling : Type 0
OneSpelling = (a b : List ℕ) (n : ℕ) → Spells a n → Spells b n → a ≡ b

-- no spelling begins another, whatever follows them
abbrev pub NoneBeginsAnother : Type 0
NoneBeginsAnother = (a b x y : List ℕ) (m n : ℕ) → Spells a m → Spells b n → a ++ x ≡ b ++ y → (a ≡ b) × (m ≡ n) × (x ≡ y)

-- `spelling` names the one spelling of each number below 2 ^ 32
abbrev pub SpellingIsIt : Type 0
SpellingIsIt = (text : List ℕ) (n : ℕ) → Spells text n ↔ ((n < 2 ^ 32) × (text ≡ spelling n))
