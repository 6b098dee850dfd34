-- How far the search for a joint order has come.
use Rattle.std.specs.Prelude.{◌≡◌, ◌≢◌, ℕ, ◌+◌, ◌<◌, List, [], ◌∷◌, ◌++◌, length, map, bytes_eq, slice_get, slice_set, get_or, Option, Some, None, MatchOption, if◌then◌else◌}
use Rattle.std.specs.Option.{option_or}
use Rattle.indexmap.specs.IndexMap.{IndexMap, get}
use Rattle.cb_history.specs.Group.{Parameters}
use Rattle.cb_history.specs.Facts.{EntryFields, CastEntry, ArriveEntry, TickEntry}
use Rattle.cb_schedules.specs.Schedule.{Setting, SentFrame}
use Rattle.cb_world.specs.declared.step.Step.{Step}
use Rattle.cb_world.specs.Steps.{step_fields, member_of}
use Rattle.cb_world.specs.World.{run_in, and_step}
use Rattle.cb_trace.specs.declared.joining.Joining.{Joining}
use Rattle.cb_trace.specs.Text.{HistoryFields}
use Rattle.cb_trace.specs.JointOrder.{Histories, gone, IsGreedy, IsStuck}
use Rattle.cb_trace.specs.JointRun.{IsFirstFrame, IsStepOf, AreStepsOf}
use Rattle.cb_trace.specs.Auditing.{entries_at, AreLegalHistories, setting_of}

-- ---- frames

-- no frame that was sent has these bytes
abbrev pub NoneHas : List SentFrame → List ℕ → Type 0
NoneHas sent bytes = (i : ℕ) (f : SentFrame) → slice_get sent i ≡ Some f → f.bytes ≢ bytes

-- what a map has at these bytes
abbrev pub found_in : {S : Type 0} → IndexMap (List ℕ) ℕ S → List ℕ → Option ℕ
found_in numbers bytes = get bytes_eq numbers bytes

-- for all bytes the look-up finds the number of the first frame with them
abbrev pub FindsFirstFrames : List SentFrame → (List ℕ → Option ℕ) → Type 0
FindsFirstFrames sent find = (bytes : List ℕ) → MatchOption (find bytes) (NoneHas sent bytes) (IsFirstFrame sent bytes)

-- this number is found for these bytes too, where none was
abbrev pub FindsToo : List ℕ → ℕ → (List ℕ → Option ℕ) → (List ℕ → Option ℕ) → Type 0
FindsToo bytes number find after = (q : List ℕ) → after q ≡ option_or (find q) (if bytes_eq bytes q then Some number else None)

-- ---- the next step

-- an arrival of bytes that no frame has
abbrev pub Waits : List SentFrame → EntryFields → Type 0
Waits sent (CastEntry frame) = ⊥
Waits sent (ArriveEntry frame delivered) = NoneHas sent frame
Waits sent (TickEntry status) = ⊥

-- the step that makes the entry of member k, or that it waits for its frame
abbrev pub SaysStep : List SentFrame → ℕ → EntryFields → Option Step → Type 0
SaysStep sent k e (Some step) = IsStepOf sent k e (step_fields step)
SaysStep sent k e None = Waits sent e

-- so of the next entry, where there is one
abbrev pub SaysNextStep : List SentFrame → ℕ → Option EntryFields → Option Step → Type 0
SaysNextStep sent k (Some e) step = SaysStep sent k e step
SaysNextStep sent k None (Some step) = ⊥
SaysNextStep sent k None None = Unit {0}

-- the next entry of member k, where so many of each have gone
abbrev pub next_at : Histories → List ℕ → ℕ → Option EntryFields
next_at histories counts k = slice_get (histories k) (get_or counts k 0)

-- the smallest member with a step for its next entry, or that none has one
abbrev pub SaysFirstStep : Histories → List ℕ → List SentFrame → Option Step → Type 0
SaysFirstStep histories counts sent (Some step) =
    (e : EntryFields) × (next_at histories counts (member_of (step_fields step)) ≡ Some e)
    × IsStepOf sent (member_of (step_fields step)) e (step_fields step)
    × ((i : ℕ) → i < member_of (step_fields step) → SaysNextStep sent i (next_at histories counts i) None)
SaysFirstStep histories counts sent None = (i : ℕ) → SaysNextStep sent i (next_at histories counts i) None

-- ---- the search

-- the counts are those of the order
pub record AreCounts (size : ℕ) (order counts : List ℕ) : Type 0 where
  pub many : length counts ≡ size
  pub each : (k : ℕ) → get_or counts k 0 ≡ gone order k

-- The smallest member went each time, its steps were taken, and all frames that these sent are found.
pub record IsJoining (setting : Setting) (histories : List HistoryFields) (j : Joining) : Type 0 where
  pub setting_is : j.world.setting ≡ setting
  pub order : List ℕ
  pub greedy : IsGreedy (entries_at histories) order
  pub steps_are : AreStepsOf setting (entries_at histories) order j.world.steps
  pub copied : map step_fields j.steps.items ≡ j.world.steps
  pub counts : AreCounts (length histories) order j.gone.items
  pub frames : FindsFirstFrames (run_in j.world).sent (found_in j.first_frames)

-- and no entry may go
pub record IsJoined (setting : Setting) (histories : List HistoryFields) (j : Joining) : Type 0 where
  pub joining : IsJoining setting histories j
  pub stuck : IsStuck (entries_at histories) joining.order

-- legal histories, whose search has ended
pub record IsSearched (histories : List HistoryFields) (j : Joining) : Type 0 where
  pub group : Parameters
  pub legal : AreLegalHistories group histories
  pub joined : IsJoined (setting_of group histories) histories j

-- the step was taken, and one more entry of its member has gone
pub record TakesStep (old new : Joining) (step : Step) : Type 0 where
  pub world : new.world ≡ and_step old.world (step_fields step)
  pub steps : new.steps.items ≡ old.steps.items ++ step ∷ []
  pub counts :
      let k = member_of (step_fields step) in
      new.gone.items ≡ slice_set old.gone.items k (get_or old.gone.items k 0 + 1)
  pub frames : FindsFirstFrames (run_in new.world).sent (found_in new.first_frames)

-- ---- what is left

-- member k has an entry that has not gone
abbrev pub HasLeft : Histories → List ℕ → ℕ → Type 0
HasLeft histories counts k = get_or counts k 0 < length (histories k)

-- the smallest member that has
pub record IsFirstLeft (histories : Histories) (counts : List ℕ) (k : ℕ) : Type 0 where
  pub left : HasLeft histories counts k
  pub smallest : (i : ℕ) → i < k → ¬ HasLeft histories counts i
