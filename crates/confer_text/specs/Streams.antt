-- Reading an input whole, and writing some text.
use Rattle.std.specs.Prelude.{◌≡◌, ◌<◌, ◌≤◌, ℕ, List, ◌++◌, Option, IfSome, length}
use Rattle.std.specs.Io.KnownBytes.{Appends}
use Rattle.confer_text.specs.declared.fault.LinesFault.{LinesFault}
use Rattle.confer_text.specs.declared.fault.LinesFault.TheVariants.{Read, Write, TooLong, NoMemory}
use Rattle.confer_text.specs.declared.streams.TheConstants.{LONGEST_INPUT}

-- the input is at most as long as one may be
abbrev pub IsWithinLimit : Option (List ℕ) → Type 0
IsWithinLimit input = IfSome input (λ bytes. length bytes ≤ LONGEST_INPUT)

-- and it is longer
abbrev pub IsTooLong : Option (List ℕ) → Type 0
IsTooLong input = IfSome input (λ bytes. LONGEST_INPUT < length bytes)

-- some text was appended to what was written
abbrev pub WritesSome : Option (List ℕ) → Option (List ℕ) → Type 0
WritesSome before now = (text : List ℕ) × Appends before now text

-- a beginning of the bytes was written
pub record WritesPart (before now : Option (List ℕ)) (bytes : List ℕ) : Type 0 where
  pub part : List ℕ
  pub rest : List ℕ
  pub parts : bytes ≡ part ++ rest
  pub appended : Appends before now part

-- why an input can't be read whole: one that is too long is so
abbrev pub FailsToRead : LinesFault → Option (List ℕ) → Type 0
FailsToRead Read input = Unit {0}
FailsToRead Write input = ⊥
FailsToRead TooLong input = IsTooLong input
FailsToRead NoMemory input = Unit {0}
