-- Rounds without one member, who is silent: each other one ticks, all that was sent arrives at the others, and then they help each other.
use Rattle.std.specs.Prelude.{ℕ, zero, suc, ◌+◌, not, ◌==◌, List, [], ◌∷◌, ◌++◌, length, drop, map, filter}
use Rattle.std.specs.List.{flat_map, range_with_len}
use Rattle.cb_schedules.specs.Schedule.{Setting, TickStep, ArriveStep, HelpStep, Schedule, SentFrame, GroupState, run_from}
use Rattle.cb_schedules.specs.Rounds.{receivers}

-- ---- steps of the others

-- all members but one, in rising order
abbrev pub all_but : ℕ → ℕ → List ℕ
all_but size silent = filter (λ k. not (k == silent)) (range_with_len 0 size)

-- each of the others ticks once
abbrev pub others_tick : ℕ → ℕ → Schedule
others_tick size silent = map TickStep (all_but size silent)

-- those of the others that a frame was sent to
abbrev pub other_receivers : ℕ → ℕ → SentFrame → List ℕ
other_receivers size silent frame = filter (λ j. not (j == silent)) (receivers size frame.from frame.to)

-- frames, numbered from here on, arrive one after another, each once at each of the others that it was sent to
abbrev pub others_take : ℕ → ℕ → ℕ → List SentFrame → Schedule
others_take size silent number [] = []
others_take size silent number (frame ∷ frames) =
    map (λ j. ArriveStep j number) (other_receivers size silent frame) ++ others_take size silent (number + 1) frames

-- so do all that were sent since there were `count` of them
abbrev pub others_take_since : ℕ → ℕ → ℕ → GroupState → Schedule
others_take_since size silent count s = others_take size silent count (drop count s.sent)

-- each of the others asks for help for each sender but itself
abbrev pub others_ask : ℕ → ℕ → Schedule
others_ask size silent = flat_map (λ j. map (HelpStep j) (all_but size j)) (all_but size silent)

-- ---- waves

-- how steps lead from one state to another: those of members, or those of cores
abbrev pub Running : Type 0
Running = GroupState → Schedule → GroupState

-- the steps of a wave, by the state in which the wave before it began and the one in which it begins
abbrev pub Wave : Type 0
Wave = GroupState → GroupState → Schedule

-- waves one behind another
unfoldable pub in_waves : Running → List Wave → GroupState → GroupState → Schedule
in_waves run_on [] before now = []
in_waves run_on (wave ∷ waves) before now =
    wave before now ++ in_waves run_on waves now (run_on now (wave before now))

abbrev pub they_tick : ℕ → ℕ → Wave
they_tick size silent before now = others_tick size silent

-- what was sent in the wave before arrives
abbrev pub they_take : ℕ → ℕ → Wave
they_take size silent before now = others_take_since size silent (length before.sent) now

abbrev pub they_ask : ℕ → ℕ → Wave
they_ask size silent before now = others_ask size silent

-- A round: the ticks, the arrivals of what they sent, statuses and requests, and of what was sent in answer; then the steps that ask
-- for help, the arrivals of the help frames, and of what is handed on.
abbrev pub help_waves : ℕ → ℕ → List Wave
help_waves size silent =
    they_tick size silent ∷ they_take size silent ∷ they_take size silent
    ∷ they_ask size silent ∷ they_take size silent ∷ they_take size silent ∷ []

unfoldable pub help_round_by : Running → ℕ → ℕ → GroupState → Schedule
help_round_by run_on size silent s = in_waves run_on (help_waves size silent) s s

-- so many rounds, one after another
unfoldable pub help_rounds_by : Running → ℕ → ℕ → ℕ → GroupState → Schedule
help_rounds_by run_on size silent zero s = []
help_rounds_by run_on size silent (suc n) s =
    help_rounds_by run_on size silent n s
    ++ help_round_by run_on size silent (run_on s (help_rounds_by run_on size silent n s))

-- ---- of members

abbrev pub help_round : Setting → ℕ → GroupState → Schedule
help_round setting silent s = help_round_by (run_from setting) setting.group.size silent s

abbrev pub help_rounds : Setting → ℕ → ℕ → GroupState → Schedule
help_rounds setting silent n s = help_rounds_by (run_from setting) setting.group.size silent n s

abbrev pub after_help_rounds : Setting → ℕ → ℕ → GroupState → GroupState
after_help_rounds setting silent n s = run_from setting s (help_rounds setting silent n s)
