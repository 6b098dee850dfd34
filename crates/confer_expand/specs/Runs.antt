-- What a run has written where it stops.
use Rattle.std.specs.Prelude.{◌≡◌, ◌<◌, ℕ, List, [], ◌++◌, Option, Some, length, take}
use Rattle.std.specs.Io.KnownBytes.{Appends, Consumes}
use Rattle.confer_text.specs.declared.fault.LinesFault.{LinesFault}
use Rattle.confer_text.specs.declared.fault.LinesFault.TheVariants.{Read, Write, TooLong, NoMemory}
use Rattle.confer_text.specs.declared.streams.TheConstants.{LONGEST_INPUT}
use Rattle.confer_text.specs.Streams.{WritesPart}
use Rattle.confer_expand.specs.Progress.{Group, Said, Says, SaysFirst}
use Rattle.confer_expand.specs.Lines.{lines_of, ended, answers, output_of}

-- the lines of the input that come first have these answers
pub record AnswersFirst (group size : ℕ) (input written : List ℕ) : Type 0 where
  pub done : List (List ℕ)
  pub later : List (List ℕ)
  pub parts : lines_of input ≡ done ++ later
  pub text : written ≡ answers group size [] done

-- What was written where a run over the input stops by this fault, and `left` is what its reader still has.
-- After a read fault it is the answers to all lines that ended in what was read; after a write fault it is a beginning of the
-- answers; of an input that is too long, the answers to all lines that end within the limit; and when memory runs out, whole
-- answers to some first lines.
abbrev pub Wrote : ℕ → ℕ → List ℕ → LinesFault → Option (List ℕ) → List ℕ → Type 0
Wrote group size input Read left written =
    (seen : List ℕ) × Consumes (Some input) left seen × (written ≡ answers group size [] (ended [] seen))
Wrote group size input Write left written = (rest : List ℕ) × (output_of group size input ≡ written ++ rest)
Wrote group size input TooLong left written =
    (LONGEST_INPUT < length input) × (written ≡ answers group size [] (ended [] (take LONGEST_INPUT input)))
Wrote group size input NoMemory left written = AnswersFirst group size input written

abbrev pub Stops : ℕ → ℕ → List ℕ → LinesFault → Option (List ℕ) → Option (List ℕ) → Option (List ℕ) → Type 0
Stops group size input fault left before now =
    (written : List ℕ) × Appends before now written × Wrote group size input fault left written

-- how writing the answers that came with one read fails, of which memory may have ended the last
abbrev pub FailsToPut : LinesFault → Option (List ℕ) → Option (List ℕ) → List ℕ → Type 0
FailsToPut Read before now text = ⊥
FailsToPut Write before now text = WritesPart before now text
FailsToPut TooLong before now text = ⊥
FailsToPut NoMemory before now text = Appends before now text

-- these lines were answered, and the answers written
pub record PutsLines (lines : List (List ℕ)) (old new : Group) (before after : Said) (written now : Option (List ℕ)) : Type 0 where
  pub said : Said
  pub says : Says lines old new before said
  pub put : Appends written now said.text
  pub cleared : after ≡ record said { text = [] }

-- some first ones of these lines were answered, and writing the answers failed, or memory ran out behind them
pub record StopsIn (fault : LinesFault) (lines : List (List ℕ)) (old : Group) (before : Said) (written now : Option (List ℕ)) : Type 0 where
  pub new : Group
  pub said : Said
  pub first : SaysFirst lines old new before said
  pub fails : FailsToPut fault written now said.text
