-- What rounds without a silent member do: what some of the others have, all of them get.
use Rattle.std.specs.Prelude.{◌≡◌, ◌≢◌, ◌↔◌, ℕ, ◌+◌, ◌<◌, ◌≤◌, not, ◌&&◌, ◌==◌, nat_lt, ◌++◌, if◌then◌else◌}
use Rattle.std.specs.List.{AllByRecursion}
use Rattle.std.specs.Int.{div_ceil}
use Rattle.cb_times.specs.declared.name.Name.{Name}
use Rattle.cb_frames.specs.declared.frame.TheConstants.{MOST_FRAMES}
use Rattle.cb_schedules.specs.Schedule.{Setting, IsSetting, Step, CastStep, ArriveStep, TickStep, HelpStep, Schedule, GroupState, run}
use Rattle.cb_schedules.specs.Messages.{HasDelivered}
use Rattle.cb_schedules.specs.Rounds.{FindNoneFull}
use Rattle.cb_schedules.specs.RoundLaws.{ticks_of, IsNoCastStep}
use Rattle.cb_schedules.specs.HelpRounds.{help_round, help_rounds, after_help_rounds}

-- ---- what a round is

-- the member that does something in a step
abbrev pub member_of_step : Step → ℕ
member_of_step (CastStep i load) = i
member_of_step (ArriveStep j number) = j
member_of_step (TickStep i) = i
member_of_step (HelpStep j i) = j

-- each other member ticks once in a round, and nobody else does
abbrev pub EachOtherTicksOnce : Type 0
EachOtherTicksOnce =
    (setting : Setting) (silent i : ℕ) (s : GroupState)
    → ticks_of i (help_round setting silent s) ≡ (if nat_lt i setting.group.size && not (i == silent) then 1 else 0)

-- in no step does the silent member do anything or get anything
abbrev pub SilentDoesNothing : Type 0
SilentDoesNothing =
    (setting : Setting) (silent n : ℕ) (s : GroupState)
    → AllByRecursion (λ step. member_of_step step ≢ silent) (help_rounds setting silent n s)

-- and nobody casts
abbrev pub HelpRoundsCastNothing : Type 0
HelpRoundsCastNothing =
    (setting : Setting) (silent n : ℕ) (s : GroupState) → AllByRecursion IsNoCastStep (help_rounds setting silent n s)

-- they are steps of a schedule like any others
abbrev pub HelpRoundsAreSteps : Type 0
HelpRoundsAreSteps =
    (setting : Setting) (silent n : ℕ) (steps : Schedule)
    → after_help_rounds setting silent n (run setting steps)
    ≡ run setting (steps ++ help_rounds setting silent n (run setting steps))

-- ---- what they do

-- a window, and as many more as it takes to ask for a whole one
abbrev pub rounds_without : Setting → ℕ
rounds_without setting = setting.group.window + div_ceil setting.group.window MOST_FRAMES

-- one more than the window where that is no wider than an answer has frames, and never more than four more
abbrev pub SoManyWithout : Type 0
SoManyWithout =
    (setting : Setting) → IsSetting setting
    → (setting.group.window ≤ MOST_FRAMES → rounds_without setting ≡ setting.group.window + 1) × (rounds_without setting ≤ setting.group.window + 4)

-- no two of the others differ in what they have delivered
abbrev pub OthersHaveTheSame : Setting → ℕ → GroupState → Type 0
OthersHaveTheSame setting silent s =
    (j k : ℕ) (m : Name) → j < setting.group.size → k < setting.group.size → j ≢ silent → k ≢ silent
    → HasDelivered setting s j m ↔ HasDelivered setting s k m

-- each of them has delivered what any of them had delivered before, its own casts among it
abbrev pub OthersHaveWhatAnyHad : Setting → ℕ → GroupState → GroupState → Type 0
OthersHaveWhatAnyHad setting silent before s =
    (j k : ℕ) (m : Name) → j < setting.group.size → k < setting.group.size → j ≢ silent → k ≢ silent
    → HasDelivered setting before k m → HasDelivered setting s j m

-- Behind so many rounds without any one member it holds of the state before them and of the one behind them, whatever schedule led to
-- the first, where no answer in these rounds is that a history is full. Nothing is asked of what was received before: what the silent
-- member cast may have reached one other member alone.
abbrev pub BehindRoundsWithout : (Setting → ℕ) → (Setting → ℕ → GroupState → GroupState → Type 0) → Type 0
BehindRoundsWithout rounds P =
    (setting : Setting) (silent : ℕ) (steps : Schedule) → IsSetting setting → silent < setting.group.size
    → FindNoneFull setting (run setting steps) (help_rounds setting silent (rounds setting) (run setting steps))
    → P setting silent (run setting steps) (after_help_rounds setting silent (rounds setting) (run setting steps))

-- what is so of the state behind them
abbrev pub InTheEnd : (Setting → ℕ → GroupState → Type 0) → Setting → ℕ → GroupState → GroupState → Type 0
InTheEnd P setting silent before s = P setting silent s
