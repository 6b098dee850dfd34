-- What one more step does to a run.
use Rattle.std.specs.Prelude.{◌≡◌, ℕ, [], ◌∷◌, ◌++◌}
use Rattle.cb_schedules.specs.Schedule.{Setting, Step, Schedule, Asked, OfNoMember, OfNoFrame, OfNoBytes, GroupState, asked_by, step_after, run_from, run}

-- the run of a schedule with one step more is the run of it, and that step
abbrev pub RunsGoOn : Type 0
RunsGoOn = (setting : Setting) (steps : Schedule) (step : Step) → run setting (steps ++ step ∷ []) ≡ step_after setting (run setting steps) step

-- so a schedule behind another one goes on from that one's run
abbrev pub RunsJoin : Type 0
RunsJoin = (setting : Setting) (steps more : Schedule) → run setting (steps ++ more) ≡ run_from setting (run setting steps) more

-- the step asks for nothing
abbrev pub AsksForNothing : Asked → Type 0
AsksForNothing (Asked.Calls i call) = ⊥
AsksForNothing OfNoMember = Unit {0}
AsksForNothing OfNoFrame = Unit {0}
AsksForNothing OfNoBytes = Unit {0}

-- a step that names no member, no frame or no bytes changes no history and sends nothing
abbrev pub NothingIsDone : Type 0
NothingIsDone =
    (setting : Setting) (s : GroupState) (step : Step) → AsksForNothing (asked_by setting s.sent step)
    → ((k : ℕ) → (step_after setting s step).histories k ≡ s.histories k) × ((step_after setting s step).sent ≡ s.sent)
