-- What `confer play` has written where it stops. What it prints of which script is shown by tests.
use Rattle.std.specs.Prelude.{◌≡◌, ◌≢◌, ◌⊎◌, ℕ, List, [], Option, Ok, codes}
use Rattle.hex.specs.Hex.{decode_of}
use Rattle.confer_text.specs.declared.fault.LinesFault.TheVariants.{Read, Write, TooLong, NoMemory}
use Rattle.confer_text.specs.Streams.{IsTooLong, IsWithinLimit, WritesSome}
use Rattle.confer_play.specs.declared.fault.ScriptFault.{ScriptFault}
use Rattle.confer_play.specs.declared.fault.ScriptFault.TheVariants.{Lines, BadStep}

-- the word of a payload: a dash for none, else its bytes in hexadecimal
abbrev pub IsPayloadWord : List ℕ → List ℕ → Type 0
IsPayloadWord word payload = ((word ≡ codes "-") × (payload ≡ [])) ⊎ ((word ≢ []) × (decode_of word ≡ Ok payload))

-- why the bytes are no script
abbrev pub IsNoScript : ScriptFault → Type 0
IsNoScript (Lines NoMemory) = Unit {0}
IsNoScript (Lines fault) = ⊥
IsNoScript (BadStep line) = Unit {0}

-- What stands written where a run stops by this fault: nothing, unless the text of a run was being written. A script that is too long is
-- so, and one with a bad step is within the limit.
abbrev pub StopsPlaying : ScriptFault → Option (List ℕ) → Option (List ℕ) → Option (List ℕ) → Type 0
StopsPlaying (Lines Read) input before now = now ≡ before
StopsPlaying (Lines Write) input before now = WritesSome before now
StopsPlaying (Lines TooLong) input before now = IsTooLong input × (now ≡ before)
StopsPlaying (Lines NoMemory) input before now = now ≡ before
StopsPlaying (BadStep line) input before now = IsWithinLimit input × (now ≡ before)
