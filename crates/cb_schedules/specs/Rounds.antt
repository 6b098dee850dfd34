-- Rounds: every member ticks, and then all that was sent arrives.
use Rattle.std.specs.Prelude.{◌≢◌, ℕ, zero, suc, ◌+◌, not, ◌==◌, List, [], ◌∷◌, ◌++◌, length, drop, map, filter, Option, Some, None, Err}
use Rattle.std.specs.List.{AllByRecursion, range_with_len}
use Rattle.cb_history.specs.declared.answer.ArriveRefusal.TheVariants as arrivals
use Rattle.cb_history.specs.declared.answer.TickRefusal.TheVariants as ticks
use Rattle.cb_history.specs.CastFault.{HistoryFull}
use Rattle.cb_schedules.specs.Schedule.{Setting, TickStep, ArriveStep, Schedule, SentFrame, Answer, CastAnswer, ArrivalAnswer, TickAnswer, Outcome, GroupState, run_from}

-- ---- the steps of a round

-- every member ticks once, member 0 first
abbrev pub tick_steps : Setting → Schedule
tick_steps setting = map TickStep (range_with_len 0 setting.group.size)

-- whom a frame was sent to: the member that it names, or all but its sender
abbrev pub receivers : ℕ → ℕ → Option ℕ → List ℕ
receivers size from None = filter (λ j. not (j == from)) (range_with_len 0 size)
receivers size from (Some j) = j ∷ []

-- frames, numbered from here on, arrive one after another, each once at everyone it was sent to
abbrev pub arrivals_from : Setting → ℕ → List SentFrame → Schedule
arrivals_from setting number [] = []
arrivals_from setting number (frame ∷ frames) =
    map (λ j. ArriveStep j number) (receivers setting.group.size frame.from frame.to)
    ++ arrivals_from setting (number + 1) frames

-- so do all that were sent since there were `count` of them
abbrev pub arrivals_since : Setting → ℕ → GroupState → Schedule
arrivals_since setting count s = arrivals_from setting count (drop count s.sent)

-- behind the ticks of a round
unfoldable pub ticked : Setting → GroupState → GroupState
ticked setting s = run_from setting s (tick_steps setting)

-- and behind the arrivals of what they sent, the statuses and the requests: these are answered
unfoldable pub answered : Setting → GroupState → GroupState
answered setting s =
    run_from setting (ticked setting s) (arrivals_since setting (length s.sent) (ticked setting s))

-- A round: the ticks, the arrivals of what they sent, and the arrivals of what was sent in answer.
unfoldable pub round_steps : Setting → GroupState → Schedule
round_steps setting s =
    tick_steps setting
    ++ (arrivals_since setting (length s.sent) (ticked setting s)
    ++ arrivals_since setting (length (ticked setting s).sent) (answered setting s))

abbrev pub after_round : Setting → GroupState → GroupState
after_round setting s = run_from setting s (round_steps setting s)

-- so many rounds, one after another
unfoldable pub steps_of_rounds : Setting → ℕ → GroupState → Schedule
steps_of_rounds setting zero s = []
steps_of_rounds setting (suc n) s =
    steps_of_rounds setting n s ++ round_steps setting (run_from setting s (steps_of_rounds setting n s))

abbrev pub after_rounds : Setting → ℕ → GroupState → GroupState
after_rounds setting n s = run_from setting s (steps_of_rounds setting n s)

-- ---- room in the histories

-- any answer but that the history is full
abbrev pub IsNotFull : Answer → Type 0
IsNotFull (CastAnswer (Err fault)) = fault ≢ HistoryFull
IsNotFull (ArrivalAnswer (Err refusal)) = refusal ≢ arrivals.HistoryFull
IsNotFull (TickAnswer (Err refusal)) = refusal ≢ ticks.HistoryFull
IsNotFull other = Unit {0}

-- what was received of these steps, from this state on
abbrev pub outcomes_of : Setting → GroupState → Schedule → List Outcome
outcomes_of setting s steps = drop (length s.outcomes) (run_from setting s steps).outcomes

-- none of these steps finds a history full
abbrev pub FindNoneFull : Setting → GroupState → Schedule → Type 0
FindNoneFull setting s steps = AllByRecursion (λ outcome. IsNotFull outcome.answer) (outcomes_of setting s steps)
