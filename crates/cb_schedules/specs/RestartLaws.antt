-- Where entries are written first, a run with restarts is a run of the schedule without the steps that were dropped.
use Rattle.std.specs.Prelude.{◌≡◌, ℕ, ◌<◌, List, [], ◌∷◌, ◌++◌, map}
use Rattle.std.specs.List.{AllByRecursion}
use Rattle.cb_delay.specs.declared.message.Event.{Event}
use Rattle.cb_history.specs.Facts.{EntryFields, facts_of}
use Rattle.cb_history.specs.Events.{events}
use Rattle.cb_history.specs.Legal.{Call, ToCast, ToTake, ToTick, ToHelp, IsLegal}
use Rattle.cb_schedules.specs.Schedule.{Setting, IsSetting, IsSettingOfHistories, seat_at, SentFrame, Calls, GroupState, run}
use Rattle.cb_schedules.specs.Messages.{stamped_lists}
use Rattle.cb_schedules.specs.SentLaws.{WasSent, OneNameSameBytes}
use Rattle.cb_schedules.specs.StepLaws.{FramesGoOn}
use Rattle.cb_schedules.specs.Restarts.{JournaledState, JournaledStep, HandOutStep, WriteFirst, WriteLater, journaled_run, written_entries, without_dropped, there_now}

-- it holds after all steps, restarts among them, for every group and every history limit, where entries are written first
abbrev pub EachJournaledRun : (Setting → JournaledState → Type 0) → Type 0
EachJournaledRun P =
    (setting : Setting) (steps : List JournaledStep) → IsSetting setting → P setting (journaled_run WriteFirst setting steps)

-- so it holds of the histories and the frames that there are
abbrev pub OfWhatIsThere : (Setting → GroupState → Type 0) → Setting → JournaledState → Type 0
OfWhatIsThere P setting r = P setting (there_now r)

-- what is left of it, the run of the schedule without the steps that were dropped, and the state beside it
abbrev pub BesideWhatIsLeft : (Setting → GroupState → JournaledState → Type 0) → Setting → JournaledState → Type 0
BesideWhatIsLeft P setting r = P setting (run setting (without_dropped r)) r

-- and what is left alone
abbrev pub OfWhatIsLeft : (Setting → GroupState → Type 0) → Setting → JournaledState → Type 0
OfWhatIsLeft P setting r = P setting (run setting (without_dropped r))

-- ---- what is left is a run of a schedule

-- each of its steps asked for just the call that was entered
abbrev pub AsksForWhatWasEntered : Setting → GroupState → JournaledState → Type 0
AsksForWhatWasEntered setting s r = map (λ outcome. outcome.asked) s.outcomes ≡ map (λ x. Calls x.member x.call) r.entered

-- what a call takes was sent
abbrev pub TakesWhatWasSent : JournaledState → Call → Type 0
TakesWhatWasSent r (ToCast load) = Unit {0}
TakesWhatWasSent r (ToTake bytes) = (frame : SentFrame) × WasSent (there_now r) frame × (frame.bytes ≡ bytes)
TakesWhatWasSent r ToTick = Unit {0}
TakesWhatWasSent r (ToHelp k) = Unit {0}

-- and so nothing arrived in it but what was sent
abbrev pub ArrivalsWereSent : Setting → GroupState → JournaledState → Type 0
ArrivalsWereSent setting s r = AllByRecursion (λ x. TakesWhatWasSent r x.call) r.entered

-- its histories are those that the members have
abbrev pub HasItsHistories : Setting → GroupState → JournaledState → Type 0
HasItsHistories setting s r = (k : ℕ) → r.histories k ≡ s.histories k

-- each frame that was sent, also before a restart, is one of its frames
abbrev pub SentItsFrames : Setting → GroupState → JournaledState → Type 0
SentItsFrames setting s r = (frame : SentFrame) → WasSent (there_now r) frame → WasSent s frame

-- what a caller was handed, also before a restart, is the beginning of its member's events
abbrev pub HandedOutItsEvents : Setting → GroupState → JournaledState → Type 0
HandedOutItsEvents setting s r = (k : ℕ) → (more : List Event) × (stamped_lists setting s k ≡ r.handed k ++ more)

-- ---- step by step

-- By no step what was sent, handed out or written is taken back: each of these lists goes on at its end.
pub record NothingIsTakenBack (before after : JournaledState) : Type 0 where
  pub frames : FramesGoOn before.sent after.sent
  pub handed : (k : ℕ) → (more : List Event) × (after.handed k ≡ before.handed k ++ more)
  pub written : (k : ℕ) → (more : List EntryFields) × (written_entries after k ≡ written_entries before k ++ more)

abbrev pub StepsTakeNothingBack : Type 0
StepsTakeNothingBack =
    (setting : Setting) (steps : List JournaledStep) (step : JournaledStep) → IsSetting setting
    → NothingIsTakenBack (journaled_run WriteFirst setting steps) (journaled_run WriteFirst setting (steps ++ step ∷ []))

-- the events of what a member has written
abbrev pub written_events : Setting → JournaledState → ℕ → List Event
written_events setting r k = events (seat_at setting k) (facts_of (written_entries r k))

-- What is written and was not handed out is handed out by as many steps, in its order: these lead from the state before them to `after`.
abbrev pub HandsOutWhatIsWritten : Setting → JournaledState → (List JournaledStep → JournaledState) → Type 0
HandsOutWhatIsWritten setting r after =
    (k : ℕ) → (lacking : List Event) × (written_events setting r k ≡ r.handed k ++ lacking)
    × ((after (map (λ event. HandOutStep k) lacking)).handed k ≡ written_events setting r k)

abbrev pub WhatIsWrittenIsHandedOut : Type 0
WhatIsWrittenIsHandedOut =
    (setting : Setting) (steps : List JournaledStep) → IsSetting setting
    → HandsOutWhatIsWritten setting (journaled_run WriteFirst setting steps) (λ more. journaled_run WriteFirst setting (steps ++ more))

-- what a member has written is a legal history, at each moment
abbrev pub WhatIsWrittenIsLegal : Type 0
WhatIsWrittenIsLegal =
    (setting : Setting) (steps : List JournaledStep) (k : ℕ) → IsSettingOfHistories setting → k < setting.group.size
    → IsLegal (seat_at setting k) (written_entries (journaled_run WriteFirst setting steps) k)

-- ---- the other order

-- where frames may be sent before their entries are written, some run has two different frames of one name
abbrev pub SendingFirstUsesANameTwice : Type 0
SendingFirstUsesANameTwice =
    (setting : Setting) × (steps : List JournaledStep) × IsSetting setting
    × (OneNameSameBytes setting (there_now (journaled_run WriteLater setting steps)) → ⊥)

-- and where events may be handed out before they are written, some caller was handed what its member never had
abbrev pub HandingOutFirstIsTakenBack : Type 0
HandingOutFirstIsTakenBack =
    (setting : Setting) × (steps : List JournaledStep) × IsSetting setting
    × (BesideWhatIsLeft HandedOutItsEvents setting (journaled_run WriteLater setting steps) → ⊥)
