-- Rounds of members with journals: behind restarts too they repair whatever was lost.
use Rattle.std.specs.Prelude.{◌≡◌, ℕ, zero, suc, List, [], ◌∷◌, ◌++◌, length, drop, map}
use Rattle.cb_history.specs.Legal.{history_after}
use Rattle.cb_schedules.specs.Schedule.{Setting, IsSetting, seat_at, Step, Schedule, Asked, Calls, OfNoMember, OfNoFrame, OfNoBytes, asked_by, GroupState, run}
use Rattle.cb_schedules.specs.Rounds.{tick_steps, arrivals_from, steps_of_rounds, FindNoneFull}
use Rattle.cb_schedules.specs.Restarts.{JournaledState, nothing_journaled, JournaledStep, EnterStep, WriteStep, SendStep, WriteFirst, entered_call, journaled_from, journaled_run, without_dropped, there_now}

-- ---- steps that are not interrupted

-- Behind what is entered: the member's entries are written up to it, and the frames of the call are sent, one after another. They wait
-- behind those that waited before.
abbrev pub written_and_sent : Setting → JournaledState → Asked → List JournaledStep
written_and_sent setting r (Calls i call) =
    map (λ entry. WriteStep i) (drop (r.written i) (history_after (seat_at setting i) setting.limit (r.histories i) call))
    ++ map (λ frame. SendStep i (length (r.waiting i))) (entered_call setting i (r.histories i) call).out
written_and_sent setting r OfNoMember = []
written_and_sent setting r OfNoFrame = []
written_and_sent setting r OfNoBytes = []

abbrev pub made_whole : Setting → JournaledState → Step → List JournaledStep
made_whole setting r step = EnterStep step ∷ written_and_sent setting r (asked_by setting r.sent step)

-- so with steps one after another
unfoldable pub all_made_whole : Setting → JournaledState → Schedule → List JournaledStep
all_made_whole setting r [] = []
all_made_whole setting r (step ∷ steps) =
    made_whole setting r step ++ all_made_whole setting (journaled_from WriteFirst setting r (made_whole setting r step)) steps

abbrev pub after_whole : Setting → JournaledState → Schedule → JournaledState
after_whole setting r steps = journaled_from WriteFirst setting r (all_made_whole setting r steps)

-- Writing first forbids nothing: with each step made whole, every schedule gives the histories of its run, and sends its frames.
abbrev pub SchedulesCanBeJournaled : Type 0
SchedulesCanBeJournaled =
    (setting : Setting) (steps : Schedule) → IsSetting setting
    → ((k : ℕ) → (after_whole setting nothing_journaled steps).histories k ≡ (run setting steps).histories k)
    × ((after_whole setting nothing_journaled steps).sent ≡ (run setting steps).sent)

-- ---- rounds

-- all that was sent since there were `count` frames arrives
abbrev pub arrivals_since_then : Setting → ℕ → JournaledState → Schedule
arrivals_since_then setting count r = arrivals_from setting count (drop count r.sent)

-- behind the ticks of a round, behind the arrivals of what they sent, and behind those of what was sent in answer
abbrev pub journaled_ticks : Setting → JournaledState → JournaledState
journaled_ticks setting r = after_whole setting r (tick_steps setting)

abbrev pub journaled_answers : Setting → JournaledState → JournaledState
journaled_answers setting r =
    after_whole setting (journaled_ticks setting r) (arrivals_since_then setting (length r.sent) (journaled_ticks setting r))

-- the state behind a round
unfoldable pub journaled_round : Setting → JournaledState → JournaledState
journaled_round setting r =
    after_whole setting (journaled_answers setting r)
    (arrivals_since_then setting (length (journaled_ticks setting r).sent) (journaled_answers setting r))

-- so many rounds, one after another
unfoldable pub journaled_rounds : Setting → ℕ → JournaledState → JournaledState
journaled_rounds setting zero r = r
journaled_rounds setting (suc n) r = journaled_round setting (journaled_rounds setting n r)

-- Behind so many rounds it holds, whatever was lost before and whoever ended and came back. What is left says whether a history is full.
abbrev pub BehindJournaledRounds : (Setting → ℕ) → (Setting → GroupState → Type 0) → Type 0
BehindJournaledRounds rounds P =
    (setting : Setting) (steps : List JournaledStep) → IsSetting setting
    → FindNoneFull setting (run setting (without_dropped (journaled_run WriteFirst setting steps)))
    (steps_of_rounds setting (rounds setting) (run setting (without_dropped (journaled_run WriteFirst setting steps))))
    → P setting (there_now (journaled_rounds setting (rounds setting) (journaled_run WriteFirst setting steps)))
