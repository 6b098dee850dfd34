-- Runs, step by step.
use Rattle.std.proofs.Common.{◌≡◌, ℕ, [], ◌∷◌, ◌++◌, refl, ◌∙◌}
use Rattle.cb_schedules.specs.Schedule.{Setting, Step, Schedule, Asked, Calls, OfNoMember, OfNoFrame, OfNoBytes, GroupState, asked_by, after_asked, step_after, run_from, run, nothing_yet}
use Rattle.cb_schedules.specs.RunLaws.{RunsGoOn, RunsJoin, AsksForNothing, NothingIsDone}

pub runs_join_from : (setting : Setting) (s : GroupState) (steps more : Schedule) → run_from setting s (steps ++ more) ≡ run_from setting (run_from setting s steps) more
unfolding run_from
runs_join_from setting s [] more = refl
runs_join_from setting s (step ∷ steps) more = runs_join_from setting (step_after setting s step) steps more

pub runs_join : RunsJoin
runs_join setting steps more = runs_join_from setting nothing_yet steps more

one_step : (setting : Setting) (s : GroupState) (step : Step) → run_from setting s (step ∷ []) ≡ step_after setting s step
unfolding run_from
one_step setting s step = refl

pub runs_go_on : RunsGoOn
runs_go_on setting steps step = runs_join setting steps (step ∷ []) ∙ one_step setting (run setting steps) step

pub nothing_is_done : NothingIsDone
unfolding step_after
nothing_is_done setting s step none = nothing (asked_by setting s.sent step) none
  where
    nothing : (asked : Asked) → AsksForNothing asked → ((k : ℕ) → (after_asked setting s asked).histories k ≡ s.histories k) × ((after_asked setting s asked).sent ≡ s.sent)
    nothing (Calls i call) h = absurd h
    nothing OfNoMember h = ((λ k. refl), refl)
    nothing OfNoFrame h = ((λ k. refl), refl)
    nothing OfNoBytes h = ((λ k. refl), refl)
