-- The schedule that an order of entries is, and its run.
use Rattle.std.specs.Prelude.{◌≡◌, ◌≢◌, ℕ, ◌<◌, ◌≤◌, List, [], ◌∷◌, ◌++◌, length, slice_get, Some}
use Rattle.cb_history.specs.Facts.{EntryFields, CastEntry, ArriveEntry, TickEntry}
use Rattle.cb_history.specs.ReplayLaws.{load_said}
use Rattle.cb_history.specs.Legal.{IsLegal}
use Rattle.cb_history.specs.Read.{frame_read}
use Rattle.cb_schedules.specs.Schedule.{Setting, seat_at, Step, CastStep, ArriveStep, TickStep, Schedule, SentFrame, run}
use Rattle.cb_trace.specs.JointOrder.{Histories, next_entry}

-- the frame of this number is the first with these bytes
pub record IsFirstFrame (sent : List SentFrame) (bytes : List ℕ) (number : ℕ) : Type 0 where
  pub frame : SentFrame
  pub stands : slice_get sent number ≡ Some frame
  pub bytes_are : frame.bytes ≡ bytes
  pub first : (i : ℕ) (f : SentFrame) → i < number → slice_get sent i ≡ Some f → f.bytes ≢ bytes

-- The step that makes the entry, where these frames were sent: a cast of what its frame carries, an arrival of the first frame with its
-- bytes, or a tick.
abbrev pub IsStepOf : List SentFrame → ℕ → EntryFields → Step → Type 0
IsStepOf sent k (CastEntry frame) step = step ≡ CastStep k (load_said (frame_read frame))
IsStepOf sent k (ArriveEntry frame delivered) step = (number : ℕ) × IsFirstFrame sent frame number × (step ≡ ArriveStep k number)
IsStepOf sent k (TickEntry status) step = step ≡ TickStep k

-- the steps of an order, each in the run of those before it
pub data AreStepsOf (setting : Setting) (histories : Histories) : List ℕ → Schedule → Type 0 where
  NoStep : AreStepsOf setting histories [] []
  OneStepMore : (order : List ℕ) (steps : Schedule) (k : ℕ) (entry : EntryFields) (step : Step)
      → AreStepsOf setting histories order steps → next_entry histories order k ≡ Some entry → IsStepOf (run setting steps).sent k entry step
      → AreStepsOf setting histories (order ++ k ∷ []) (steps ++ step ∷ [])

-- the histories of a group's members are legal, no one else has any, and all are within the limit
pub record AreLegalWithin (setting : Setting) (histories : Histories) : Type 0 where
  pub legal : (k : ℕ) → k < setting.group.size → IsLegal (seat_at setting k) (histories k)
  pub nobody : (k : ℕ) → setting.group.size ≤ k → histories k ≡ []
  pub few : (k : ℕ) → length (histories k) ≤ setting.limit
