-- What the steps of an answer give, unless memory runs out.
use Rattle.std.specs.Prelude.{◌≡◌, ◌≤◌, ℕ, List, [], ◌∷◌, ◌++◌, length, slice_set, Result, Ok, Err}
use Rattle.hex.specs.Hex.{decode_of}
use Rattle.cb_frames.specs.declared.frame.TheConstants.{MOST_MESSAGES}
use Rattle.cb_frames.specs.declared.frame.Unit.{Unit as Carrying}
use Rattle.cb_frames.specs.Carrying.{IsNumbered}
use Rattle.cb_frames.specs.Fields.{CastFields, unit_fields, payloads_of, first_number}
use Rattle.cb_frames.specs.Reading.{frame_at}
use Rattle.cb_frames.specs.Text.{IsLoad}
use Rattle.cb_diffs.specs.Expansion.{expanded_time}
use Rattle.cb_diffs.specs.Laws.{IsKept}
use Rattle.confer_expand.specs.declared.fault.LineFault.{LineFault}
use Rattle.confer_expand.specs.declared.fault.LineFault.TheVariants.{Refused, NoMemory}
use Rattle.confer_expand.specs.declared.refusal.Refusal.{Refusal}
use Rattle.confer_expand.specs.Answers.{or_bad_hex, cast_or_refusal, accept, outcome}
use Rattle.confer_expand.specs.Progress.{Group}

-- a refusal is the stated one; out of memory says nothing of the line
abbrev pub Fails : {Y : Type 0} → LineFault → Result Y Refusal → Type 0
Fails (Refused refusal) said = said ≡ Err refusal
Fails (NoMemory refused) said = Unit {0}

abbrev pub GivesBytes : List ℕ → Result (List ℕ) LineFault → Type 0
GivesBytes line (Ok bytes) = or_bad_hex (decode_of line) ≡ Ok bytes
GivesBytes line (Err fault) = Fails fault (or_bad_hex (decode_of line))

-- What was read has a number for each message, no more messages than a burst may have, and no more bytes than a frame may carry.
pub record IsRead (unit : Carrying) : Type 0 where
  pub numbered : IsNumbered unit
  pub few : length (payloads_of (unit_fields unit).load) ≤ MOST_MESSAGES
  pub short : IsLoad (unit_fields unit).load

abbrev pub GivesUnit : List ℕ → Result Carrying LineFault → Type 0
GivesUnit bytes (Ok unit) = (cast_or_refusal (frame_at bytes) ≡ Ok (unit_fields unit)) × IsRead unit
GivesUnit bytes (Err fault) = Fails fault (cast_or_refusal (frame_at bytes))

-- The cast is kept. With the number of one of its messages in its sender's field, the time is the sum over the casts accepted before
-- and this one.
pub record HasTime (size : ℕ) (accepted : List CastFields) (c : CastFields) (new : Group) : Type 0 where
  pub times : (number : ℕ) → first_number c ≤ number
      → slice_set new.time c.sender number ≡ expanded_time size (accepted ++ c ∷ []) c.sender number
  pub kept : IsKept size (accepted ++ c ∷ []) new.kept

-- the cast is accepted, or a fault changes nothing
abbrev pub GivesTime : List CastFields → CastFields → Group → Group → Result (Unit {0}) LineFault → Type 0
GivesTime accepted c old new (Ok done) =
    (accept old.number (length old.kept) accepted c ≡ Ok c) × HasTime (length old.kept) accepted c new
GivesTime accepted c old new (Err fault) = Fails fault (accept old.number (length old.kept) accepted c)

-- all steps of an answer
abbrev pub GivesAccepted : List CastFields → List ℕ → Group → Group → Result Carrying LineFault → Type 0
GivesAccepted accepted line old new (Ok unit) =
    (outcome old.number (length old.kept) accepted line ≡ Ok (unit_fields unit))
    × HasTime (length old.kept) accepted (unit_fields unit) new
GivesAccepted accepted line old new (Err fault) = Fails fault (outcome old.number (length old.kept) accepted line)
