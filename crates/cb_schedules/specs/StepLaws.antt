-- What one more step leaves of the lists of a run: each goes on at its end.
use Rattle.std.specs.Prelude.{◌≡◌, ℕ, ◌<◌, List, [], ◌∷◌, ◌++◌}
use Rattle.cb_causality.specs.CausalMachine as causal
use Rattle.cb_causality.specs.StampedMachine.{StampedStep}
use Rattle.cb_causality.specs.Extension.{Extends}
use Rattle.cb_causality.specs.Lists.{Agree, Appends}
use Rattle.cb_history.specs.Facts.{EntryFields}
use Rattle.cb_schedules.specs.Schedule.{Setting, IsSetting, Step, Schedule, SentFrame, GroupState, run}
use Rattle.cb_schedules.specs.Messages.{stamped_lists, causal_lists}

-- frames that were sent stay as they were sent, and some may be sent behind them
abbrev pub FramesGoOn : List SentFrame → List SentFrame → Type 0
FramesGoOn before after = (more : List SentFrame) × (after ≡ before ++ more)

-- No history changes, or that of one member has got one entry at its end and all others are as before.
pub data HistoriesGoOn (size : ℕ) (before after : ℕ → List EntryFields) : Type 0 where
  NoEntry : Agree before after → HistoriesGoOn size before after
  OneEntry : (i : ℕ) (e : EntryFields) → i < size → Appends before after i e → HistoriesGoOn size before after

-- The events go on by steps of the stamped machine, and without their times by steps of the causal machine; what was sent stays, and
-- at most one entry is new.
pub record ListsGoOn (setting : Setting) (before after : GroupState) : Type 0 where
  pub stamped : Extends (StampedStep setting.group.size) (stamped_lists setting before) (stamped_lists setting after)
  pub causal : Extends (causal.Step setting.group.size) (causal_lists setting before) (causal_lists setting after)
  pub frames : FramesGoOn before.sent after.sent
  pub histories : HistoriesGoOn setting.group.size before.histories after.histories

-- so they do by one more step of any schedule
abbrev pub EachStepGoesOn : Type 0
EachStepGoesOn = (setting : Setting) (steps : Schedule) (step : Step) → IsSetting setting → ListsGoOn setting (run setting steps) (run setting (steps ++ step ∷ []))
