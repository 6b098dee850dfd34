-- Rounds without a silent core are those of members with room for each step.
use Rattle.std.proofs.Common.{◌≡◌, ℕ, zero, suc, List, [], ◌∷◌, ◌++◌, length, refl, sym, ap, subst, ◌∙◌, arith}
use Rattle.std.proofs.lemmas.List.{length-append}
use Rattle.cb_history.specs.Group.{Parameters}
use Rattle.cb_schedules.specs.Schedule.{Setting, Schedule, GroupState, run_from, run}
use Rattle.cb_schedules.specs.HelpRounds.{Wave, in_waves, help_waves, help_round_by, help_round, help_rounds_by, help_rounds, after_help_rounds}
use Rattle.cb_schedules.specs.HelpRoundLaws.{OthersHaveTheSame, OthersHaveWhatAnyHad, InTheEnd, rounds_without}
use Rattle.cb_schedules.specs.Forgetting.{cores_from, run_of_cores}
use Rattle.cb_schedules.specs.ForgettingRounds.{help_rounds_of_cores, cores_after_help_rounds, BehindRoundsWithoutCore}
use Rattle.cb_schedules.proofs.HelpRoundLaws.{others_have_the_same, others_have_what_any_had}
use Rattle.cb_schedules.proofs.CoreRounds.{HasLeft, alike, leaves, room_for, start_alike, none_full_in_steps, steps_run_alike}

module _ (setting : Setting) where
  abbrev group : Parameters
  group = setting.group

  -- waves for which there is room
  waves_alike : (waves : List Wave) (before now : GroupState) → HasLeft setting now (length (in_waves (cores_from group) waves before now))
      → in_waves (cores_from group) waves before now ≡ in_waves (run_from setting) waves before now
  unfolding in_waves
  waves_alike [] before now left = refl
  waves_alike (wave ∷ waves) before now left =
      let first = wave before now in
      let rest = in_waves (cores_from group) waves now (cores_from group now (wave before now)) in
      let all = length-append first rest in
      let enough : HasLeft setting now (length first) = λ k. let has = left k in omega (arith, has, all) in
      let same : cores_from group now (wave before now) ≡ run_from setting now (wave before now) = alike setting now first enough in
      let room : HasLeft setting (run_from setting now (wave before now)) (length rest) = leaves setting now first (length rest) (λ k. let has = left k in omega (arith, has, all)) in
      ap (λ (steps : Schedule). wave before now ++ steps)
      (ap (in_waves (cores_from group) waves now) same
      ∙ waves_alike waves now (run_from setting now (wave before now)) (subst (λ (t : GroupState). HasLeft setting (run_from setting now (wave before now)) (length (in_waves (cores_from group) waves now t))) same room))

  -- so many rounds
  help_rounds_alike : (silent n : ℕ) (s : GroupState) → HasLeft setting s (length (help_rounds_of_cores group silent n s)) → help_rounds_of_cores group silent n s ≡ help_rounds setting silent n s
  unfolding help_rounds_by help_round_by
  help_rounds_alike silent zero s left = refl
  help_rounds_alike silent (suc n) s left =
      let before = help_rounds_of_cores group silent n s in
      let round = help_round_by (cores_from group) group.size silent (cores_from group s before) in
      let all = length-append before round in
      let enough : HasLeft setting s (length before) = λ k. let has = left k in omega (arith, has, all) in
      let rounds : before ≡ help_rounds setting silent n s = help_rounds_alike silent n s enough in
      let now : cores_from group s before ≡ run_from setting s before = alike setting s before enough in
      let room : HasLeft setting (run_from setting s before) (length round) = leaves setting s before (length round) (λ k. let has = left k in omega (arith, has, all)) in
      let one : round ≡ help_round setting silent (run_from setting s before) =
      ap (help_round_by (cores_from group) group.size silent) now
      ∙ waves_alike (help_waves group.size silent) (run_from setting s before) (run_from setting s before)
      (subst (λ (t : GroupState). HasLeft setting (run_from setting s before) (length (help_round_by (cores_from group) group.size silent t))) now room) in
      ap (λ (steps : Schedule). before ++ steps) one ∙ ap (λ (steps : Schedule). steps ++ help_round setting silent (run_from setting s steps)) rounds

-- behind a schedule, of cores and of members with room for all these steps
module _ (group : Parameters) (steps : Schedule) (silent n : ℕ) where
  abbrev roomy : Setting
  roomy = room_for group steps 0 (help_rounds_of_cores group silent n)

  abbrev of_members : GroupState → Schedule
  of_members = help_rounds roomy silent n

  rounds_run_alike : cores_after_help_rounds group silent n (run_of_cores group steps) ≡ after_help_rounds roomy silent n (run roomy steps)
  rounds_run_alike = steps_run_alike group steps 0 (help_rounds_of_cores group silent n) of_members (help_rounds_alike roomy silent n)

pub other_cores_have_the_same : BehindRoundsWithoutCore rounds_without (InTheEnd OthersHaveTheSame)
other_cores_have_the_same setting silent steps are lt =
    let n = rounds_without setting in
    let room = roomy setting.group steps silent n in
    let of_cores = help_rounds_of_cores setting.group silent n in
    subst (OthersHaveTheSame setting silent) (sym (rounds_run_alike setting.group steps silent n))
    (others_have_the_same room silent steps (record { group = are; one_or_more = omega arith }) lt
    (none_full_in_steps setting.group steps 0 of_cores (help_rounds room silent n) (help_rounds_alike room silent n)))

pub other_cores_have_what_any_had : BehindRoundsWithoutCore rounds_without OthersHaveWhatAnyHad
other_cores_have_what_any_had setting silent steps are lt =
    let n = rounds_without setting in
    let room = roomy setting.group steps silent n in
    let of_cores = help_rounds_of_cores setting.group silent n in
    subst (λ (s : GroupState). OthersHaveWhatAnyHad setting silent s (cores_after_help_rounds setting.group silent n (run_of_cores setting.group steps))) (sym (start_alike setting.group steps 0 of_cores))
    (subst (OthersHaveWhatAnyHad setting silent (run room steps)) (sym (rounds_run_alike setting.group steps silent n))
    (others_have_what_any_had room silent steps (record { group = are; one_or_more = omega arith }) lt
    (none_full_in_steps setting.group steps 0 of_cores (help_rounds room silent n) (help_rounds_alike room silent n))))
