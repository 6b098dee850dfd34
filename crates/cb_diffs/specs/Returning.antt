-- The way back: the times of a sender's casts, from the differences of each and the one before.
use Rattle.std.specs.Prelude.{◌≡◌, ℕ, ◌+◌, ◌<◌, ◌^◌, List, [], ◌∷◌, length, replicate, slice_index_or}
use Rattle.cb_times.specs.Order.{field, AtMost}
use Rattle.cb_frames.specs.Fields.{IsOne, CastFields, first_number}
use Rattle.cb_diffs.specs.Differences.{differences}
use Rattle.cb_diffs.specs.Expansion.{expanded_time, ExpandsAll}

-- the time of a sender's message, where `previous` is the time of its message before
pub record IsLater (size sender number : ℕ) (previous time : List ℕ) : Type 0 where
  pub has_size : length time ≡ size
  pub in_range : (k : ℕ) → field time k < 2 ^ 32
  pub grown : AtMost (field previous) (field time)
  pub own : field time sender ≡ number

-- the times of a sender's messages from this number on
abbrev pub AreSendersTimes : ℕ → ℕ → ℕ → List ℕ → List (List ℕ) → Type 0
AreSendersTimes size sender number previous [] = Unit {0}
AreSendersTimes size sender number previous (time ∷ times) = IsLater size sender number previous time × AreSendersTimes size sender (number + 1) time times

-- the frame of one message of a sender, of that number, where its time is `time` and that of the message before `previous`
pub record TellsDifference (sender number : ℕ) (previous time : List ℕ) (c : CastFields) : Type 0 where
  pub sent_by : c.sender ≡ sender
  pub alone : IsOne c.load
  pub numbered : first_number c ≡ number
  pub changes : c.changes ≡ differences previous time sender

-- one frame for each of these times
abbrev pub TellDifferences : ℕ → ℕ → List ℕ → List (List ℕ) → List CastFields → Type 0
TellDifferences sender number previous [] [] = Unit {0}
TellDifferences sender number previous (time ∷ times) (c ∷ casts) = TellsDifference sender number previous time c × TellDifferences sender (number + 1) time times casts
TellDifferences sender number previous [] (c ∷ casts) = ⊥
TellDifferences sender number previous (time ∷ times) [] = ⊥

-- A new expander takes these frames, and gives these times.
abbrev pub DifferencesExpandBack : Type 0
DifferencesExpandBack = (size sender : ℕ) (times : List (List ℕ)) (casts : List CastFields) → AreSendersTimes size sender 1 (replicate size 0) times → TellDifferences sender 1 (replicate size 0) times casts
    → (new : List (List ℕ)) × ExpandsAll (replicate size (replicate size 0)) casts times new

-- What the frames add up to for the s-th message is the s-th of these times.
abbrev pub DifferencesAddUp : Type 0
DifferencesAddUp = (size sender : ℕ) (times : List (List ℕ)) (casts : List CastFields) → AreSendersTimes size sender 1 (replicate size 0) times → TellDifferences sender 1 (replicate size 0) times casts
    → (s : ℕ) → s < length times → expanded_time size casts sender (s + 1) ≡ slice_index_or times s []
