-- Cores run as members do whose histories are never full, and so the headline holds of them.
use Rattle.std.specs.Prelude.{◌≡◌, ◌≤◌, [], ◌∷◌, ◌++◌, length, Err}
use Rattle.std.specs.List.{AllByRecursion}
use Rattle.cb_history.specs.Group.{Parameters, AreParameters}
use Rattle.cb_schedules.specs.Schedule.{Setting, Step, Schedule, Answer, ArrivalAnswer, GroupState, run}
use Rattle.cb_schedules.specs.StepLaws.{ListsGoOn}
use Rattle.cb_schedules.specs.Rounds.{IsNotFull}
use Rattle.cb_schedules.specs.Forgetting.{step_of_cores, run_of_cores}

-- ---- beside members

-- no outcome is that a history is full
abbrev pub NoneIsFull : GroupState → Type 0
NoneIsFull s = AllByRecursion (λ outcome. IsNotFull outcome.answer) s.outcomes

-- With every limit that leaves an entry for each step the run of members is that of cores: the same frames, deliveries and refusals.
abbrev pub CoresRunAsMembers : Type 0
CoresRunAsMembers =
    (setting : Setting) (steps : Schedule) → length steps ≤ setting.limit → run_of_cores setting.group steps ≡ run setting steps

-- no core answers that a history is full
abbrev pub NoCoreIsFull : Type 0
NoCoreIsFull = (group : Parameters) (steps : Schedule) → NoneIsFull (run_of_cores group steps)

-- Whatever the limit is, where no member answers that its history is full, the run is that of cores.
abbrev pub FullHistoriesMakeTheDifference : Type 0
FullHistoriesMakeTheDifference =
    (setting : Setting) (steps : Schedule) → NoneIsFull (run setting steps) → run setting steps ≡ run_of_cores setting.group steps

-- ---- what is true of every run of cores

-- It holds after every schedule, for every group of cores. The setting says the group; its limit is that of no core, and any number.
abbrev pub EachScheduleOfCores : (Setting → GroupState → Type 0) → Type 0
EachScheduleOfCores P =
    (setting : Setting) (steps : Schedule) → AreParameters setting.group → P setting (run_of_cores setting.group steps)

-- the run of a schedule with one step more is the run of it, and that step
abbrev pub RunsOfCoresGoOn : Type 0
RunsOfCoresGoOn =
    (group : Parameters) (steps : Schedule) (step : Step)
    → run_of_cores group (steps ++ step ∷ []) ≡ step_of_cores group (run_of_cores group steps) step

-- by it all lists go on at their ends, and the events by steps of the stamped and of the causal machine
abbrev pub EachStepOfCoresGoesOn : Type 0
EachStepOfCoresGoesOn =
    (setting : Setting) (steps : Schedule) (step : Step) → AreParameters setting.group
    → ListsGoOn setting (run_of_cores setting.group steps) (run_of_cores setting.group (steps ++ step ∷ []))

-- an arrival is accepted, or is a repeat
abbrev pub IsNotRefused : Answer → Type 0
IsNotRefused (ArrivalAnswer (Err refusal)) = ⊥
IsNotRefused other = Unit {0}

-- no arrival is refused
abbrev pub NoArrivalIsRefused : Setting → GroupState → Type 0
NoArrivalIsRefused setting s = AllByRecursion (λ outcome. IsNotRefused outcome.answer) s.outcomes
