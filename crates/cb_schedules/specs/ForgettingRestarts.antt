-- Cores that come back: members that keep no history beside their journal.
use Rattle.std.specs.Prelude.{◌≡◌, ◌≤◌, List, [], ◌∷◌, ◌++◌, length, slice_get}
use Rattle.cb_history.specs.Group.{Parameters, AreParameters}
use Rattle.cb_schedules.specs.Schedule.{Setting, Asked, Calls, OfNoMember, OfNoFrame, OfNoBytes, asked_by, GroupState}
use Rattle.cb_schedules.specs.Forgetting.{with_room_behind, run_of_cores}
use Rattle.cb_schedules.specs.Restarts.{JournaledState, nothing_journaled, JournaledStep, EnterStep, WriteStep, SendStep, HandOutStep, RestartStep, WriteFirst, after_entering, after_writing, and_sent, after_handing, after_restart, journaled_run, without_dropped}
use Rattle.cb_schedules.specs.RestartLaws.{NothingIsTakenBack, HandsOutWhatIsWritten}

-- core i answers the call, as one that has entered all this and has room for one entry more
abbrev pub after_entering_of_cores : Parameters → JournaledState → Asked → JournaledState
after_entering_of_cores group r (Calls i call) = after_entering (with_room_behind (r.histories i) group) r (Calls i call)
after_entering_of_cores group r OfNoMember = r
after_entering_of_cores group r OfNoFrame = r
after_entering_of_cores group r OfNoBytes = r

-- The state of cores after one step, where entries are written first. All but what is entered is as for members.
unfoldable pub journaled_step_of_cores : Parameters → JournaledState → JournaledStep → JournaledState
journaled_step_of_cores group r (EnterStep step) = after_entering_of_cores group r (asked_by (with_room_behind [] group) r.sent step)
journaled_step_of_cores group r (WriteStep j) = after_writing r j
journaled_step_of_cores group r (SendStep j n) = and_sent WriteFirst r j n (slice_get (r.waiting j) n)
journaled_step_of_cores group r (HandOutStep j) = after_handing WriteFirst (with_room_behind [] group) r j
journaled_step_of_cores group r (RestartStep j) = after_restart r j

-- the state after some steps
unfoldable pub journaled_cores_from : Parameters → JournaledState → List JournaledStep → JournaledState
journaled_cores_from group r [] = r
journaled_cores_from group r (step ∷ steps) = journaled_cores_from group (journaled_step_of_cores group r step) steps

-- the run of a list of steps by cores
abbrev pub journaled_run_of_cores : Parameters → List JournaledStep → JournaledState
journaled_run_of_cores group steps = journaled_cores_from group nothing_journaled steps

-- ---- beside members

-- with every limit that leaves an entry for each step the run of members is that of cores
abbrev pub JournaledCoresRunAsMembers : Type 0
JournaledCoresRunAsMembers =
    (setting : Setting) (steps : List JournaledStep) → length steps ≤ setting.limit
    → journaled_run_of_cores setting.group steps ≡ journaled_run WriteFirst setting steps

-- ---- what is true of every run of cores with journals

-- it holds after all steps, for every group of cores; the setting says the group, and its limit is any number
abbrev pub EachJournaledRunOfCores : (Setting → JournaledState → Type 0) → Type 0
EachJournaledRunOfCores P =
    (setting : Setting) (steps : List JournaledStep) → AreParameters setting.group
    → P setting (journaled_run_of_cores setting.group steps)

-- what is left of it is a run of cores
abbrev pub BesideWhatCoresLeave : (Setting → GroupState → JournaledState → Type 0) → Setting → JournaledState → Type 0
BesideWhatCoresLeave P setting r = P setting (run_of_cores setting.group (without_dropped r)) r

abbrev pub OfWhatCoresLeave : (Setting → GroupState → Type 0) → Setting → JournaledState → Type 0
OfWhatCoresLeave P setting r = P setting (run_of_cores setting.group (without_dropped r))

-- what cores have written is handed out too
abbrev pub WhatCoresWroteIsHandedOut : Type 0
WhatCoresWroteIsHandedOut =
    (setting : Setting) (steps : List JournaledStep) → AreParameters setting.group
    → HandsOutWhatIsWritten setting (journaled_run_of_cores setting.group steps) (λ more. journaled_run_of_cores setting.group (steps ++ more))

-- no step of cores takes anything back
abbrev pub StepsOfCoresTakeNothingBack : Type 0
StepsOfCoresTakeNothingBack =
    (setting : Setting) (steps : List JournaledStep) (step : JournaledStep) → AreParameters setting.group
    → NothingIsTakenBack (journaled_run_of_cores setting.group steps) (journaled_run_of_cores setting.group (steps ++ step ∷ []))
