-- Rounds of cores, as of members: every core ticks, and then all that was sent arrives.
use Rattle.std.specs.Prelude.{◌≡◌, ℕ, zero, suc, ◌<◌, [], ◌++◌, length}
use Rattle.std.specs.List.{AllByRecursion}
use Rattle.cb_history.specs.Group.{Parameters, AreParameters}
use Rattle.cb_schedules.specs.Schedule.{Setting, Schedule, GroupState}
use Rattle.cb_schedules.specs.Rounds.{tick_steps, arrivals_since}
use Rattle.cb_schedules.specs.RoundLaws.{IsNoCastStep}
use Rattle.cb_schedules.specs.HelpRounds.{help_rounds_by}
use Rattle.cb_schedules.specs.Forgetting.{with_room_behind, cores_from, run_of_cores}

-- ---- rounds

-- behind the ticks of a round
unfoldable pub ticked_cores : Parameters → GroupState → GroupState
ticked_cores group s = cores_from group s (tick_steps (with_room_behind [] group))

-- and behind the arrivals of what they sent, the statuses and the requests: these are answered
unfoldable pub answered_cores : Parameters → GroupState → GroupState
answered_cores group s =
    cores_from group (ticked_cores group s)
    (arrivals_since (with_room_behind [] group) (length s.sent) (ticked_cores group s))

-- A round: the ticks, the arrivals of what they sent, and the arrivals of what was sent in answer.
unfoldable pub round_of_cores : Parameters → GroupState → Schedule
round_of_cores group s =
    tick_steps (with_room_behind [] group)
    ++ (arrivals_since (with_room_behind [] group) (length s.sent) (ticked_cores group s)
    ++ arrivals_since (with_room_behind [] group) (length (ticked_cores group s).sent) (answered_cores group s))

-- so many rounds, one after another
unfoldable pub rounds_of_cores : Parameters → ℕ → GroupState → Schedule
rounds_of_cores group zero s = []
rounds_of_cores group (suc n) s =
    rounds_of_cores group n s ++ round_of_cores group (cores_from group s (rounds_of_cores group n s))

abbrev pub cores_after_rounds : Parameters → ℕ → GroupState → GroupState
cores_after_rounds group n s = cores_from group s (rounds_of_cores group n s)

-- ---- what they do

-- Behind so many rounds it holds, from every state that any schedule of cores reaches. All frames may have been lost before.
abbrev pub BehindRoundsOfCores : (Setting → ℕ) → (Setting → GroupState → Type 0) → Type 0
BehindRoundsOfCores rounds P =
    (setting : Setting) (steps : Schedule) → AreParameters setting.group
    → P setting (cores_after_rounds setting.group (rounds setting) (run_of_cores setting.group steps))

-- whatever ticks, asks for help and arrives from now on, of all frames that were ever sent, no core enters anything
abbrev pub NoCoreChangesAnyMore : Setting → GroupState → Type 0
NoCoreChangesAnyMore setting s =
    (steps : Schedule) (k : ℕ) → AllByRecursion IsNoCastStep steps
    → (cores_from setting.group s steps).histories k ≡ s.histories k

-- ---- without a silent core

-- rounds without one core are those without one member
abbrev pub help_rounds_of_cores : Parameters → ℕ → ℕ → GroupState → Schedule
help_rounds_of_cores group silent n s = help_rounds_by (cores_from group) group.size silent n s

abbrev pub cores_after_help_rounds : Parameters → ℕ → ℕ → GroupState → GroupState
cores_after_help_rounds group silent n s = cores_from group s (help_rounds_of_cores group silent n s)

-- behind so many rounds without any one core it holds of the state before them and of the one behind them
abbrev pub BehindRoundsWithoutCore : (Setting → ℕ) → (Setting → ℕ → GroupState → GroupState → Type 0) → Type 0
BehindRoundsWithoutCore rounds P =
    (setting : Setting) (silent : ℕ) (steps : Schedule) → AreParameters setting.group → silent < setting.group.size
    → P setting silent (run_of_cores setting.group steps)
    (cores_after_help_rounds setting.group silent (rounds setting) (run_of_cores setting.group steps))
