-- How far the answers have come.
use Rattle.std.specs.Prelude.{◌≡◌, ℕ, Bool, false, ◌||◌, List, [], ◌++◌, length}
use Rattle.cb_frames.specs.Fields.{CastFields}
use Rattle.cb_diffs.specs.Laws.{IsKept}
use Rattle.confer_expand.specs.Lines.{answers, any_refused, accepted_through}

-- What is known of a group: its number, the times of its members' last accepted casts, and the time of the cast that was
-- accepted last.
pub record Group : Type 0 where
  pub number : ℕ
  pub kept : List (List ℕ)
  pub time : List ℕ

-- answers, and whether one of them is a refusal
pub record Said : Type 0 where
  pub text : List ℕ
  pub refused : Bool

-- in a group of this number and size, where these casts were accepted, the lines are answered behind what was said before
pub record SaysAfter (group size : ℕ) (accepted : List CastFields) (lines : List (List ℕ)) (before now : Said) (kept : List (List ℕ)) : Type 0 where
  pub text : now.text ≡ before.text ++ answers group size accepted lines
  pub refusal : now.refused ≡ (before.refused || any_refused group size accepted lines)
  pub kept_are : IsKept size (accepted_through group size accepted lines) kept

-- the lines are answered, whatever was accepted before
pub record Says (lines : List (List ℕ)) (old new : Group) (before now : Said) : Type 0 where
  pub number : new.number ≡ old.number
  pub size : length new.kept ≡ length old.kept
  pub after : (accepted : List CastFields) → IsKept (length old.kept) accepted old.kept
      → SaysAfter old.number (length old.kept) accepted lines before now new.kept

-- some first ones of the lines are answered
pub record SaysFirst (lines : List (List ℕ)) (old new : Group) (before now : Said) : Type 0 where
  pub done : List (List ℕ)
  pub later : List (List ℕ)
  pub parts : lines ≡ done ++ later
  pub says : Says done old new before now

-- the group keeps its number and its size
pub record SameGroup (old new : Group) : Type 0 where
  pub number : new.number ≡ old.number
  pub size : length new.kept ≡ length old.kept

-- what is known of the group stays, but for the time
pub record SameButTime (old new : Group) : Type 0 where
  pub number : new.number ≡ old.number
  pub kept : new.kept ≡ old.kept

-- no cast was accepted yet
pub record IsFresh (number size : ℕ) (g : Group) : Type 0 where
  pub number_is : g.number ≡ number
  pub kept : IsKept size [] g.kept

-- no line was answered yet
pub record NothingSaid (s : Said) : Type 0 where
  pub text : s.text ≡ []
  pub refused : s.refused ≡ false
