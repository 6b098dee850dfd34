-- Rounds of cores are those of members with room for each step.
use Rattle.std.proofs.Common.{◌≡◌, ℕ, zero, suc, ◌+◌, ◌≤◌, [], ◌∷◌, ◌++◌, List, length, drop, map, refl, sym, ap, subst, ◌∙◌, arith}
use Rattle.std.proofs.lemmas.List.{length-append}
use Rattle.cb_history.specs.Group.{Parameters, AreParameters}
use Rattle.cb_schedules.specs.Schedule.{Setting, IsSetting, ArriveStep, Schedule, SentFrame, GroupState, step_after, nothing_yet, run_from, run}
use Rattle.cb_schedules.specs.Rounds.{tick_steps, receivers, arrivals_from, arrivals_since, ticked, answered, round_steps, steps_of_rounds, after_rounds, FindNoneFull}
use Rattle.cb_schedules.specs.RoundLaws.{EverybodyHasEverything, EverybodyHasTheSame, NothingIsMissing, EverythingIsStable, EverybodyKnowsWhatIsStable, rounds_to_deliver, rounds_to_be_stable}
use Rattle.cb_schedules.specs.Forgetting.{with_room_behind, cores_from, run_of_cores}
use Rattle.cb_schedules.specs.ForgettingRounds.{ticked_cores, answered_cores, round_of_cores, rounds_of_cores, cores_after_rounds, BehindRoundsOfCores, NoCoreChangesAnyMore}
use Rattle.cb_schedules.proofs.Room.{none_full, step_adds, room_enough}
use Rattle.cb_schedules.proofs.RoundLaws.{rounds_deliver, then_all_have_the_same, then_nothing_is_missing, rounds_make_stable, rounds_tell_what_is_stable, then_nothing_changes}
use Rattle.cb_schedules.proofs.Forgetting.{cores_run_alike}

-- each history has so many entries left
abbrev pub HasLeft : Setting → GroupState → ℕ → Type 0
HasLeft setting s count = (k : ℕ) → length (s.histories k) + count ≤ setting.limit

run_adds : (setting : Setting) (s : GroupState) (steps : Schedule) (k : ℕ) → length ((run_from setting s steps).histories k) ≤ length (s.histories k) + length steps
unfolding run_from
run_adds setting s [] k = omega arith
run_adds setting s (step ∷ steps) k =
    let one = step_adds setting s step k in
    let rest = run_adds setting (step_after setting s step) steps k in
    omega (arith, one, rest)

-- the arrivals of frames depend on the group alone
same_arrivals : (setting : Setting) (limit number : ℕ) (frames : List SentFrame) → arrivals_from (record { group = setting.group; limit = limit }) number frames ≡ arrivals_from setting number frames
same_arrivals setting limit number [] = refl
same_arrivals setting limit number (frame ∷ frames) =
    ap (λ (rest : Schedule). map (λ j. ArriveStep j number) (receivers setting.group.size frame.from frame.to) ++ rest) (same_arrivals setting limit (number + 1) frames)

module _ (setting : Setting) where
  abbrev group : Parameters
  group = setting.group

  abbrev unlimited : Setting
  unlimited = with_room_behind [] setting.group

  -- steps for which there is room run alike
  pub alike : (s : GroupState) (steps : Schedule) → HasLeft setting s (length steps) → cores_from group s steps ≡ run_from setting s steps
  alike s steps left = cores_run_alike setting s steps (none_full setting s steps left)

  -- and leave the rest of the room
  pub leaves : (s : GroupState) (steps : Schedule) (more : ℕ) → HasLeft setting s (length steps + more) → HasLeft setting (run_from setting s steps) more
  leaves s steps more left k = let has = left k in let adds = run_adds setting s steps k in omega (arith, has, adds)

  module _ (s : GroupState) where
    abbrev ticks : Schedule
    ticks = tick_steps setting

    abbrev first : Schedule
    first = arrivals_since setting (length s.sent) (ticked setting s)

    ticked_alike : HasLeft setting s (length ticks) → ticked_cores group s ≡ ticked setting s
    unfolding ticked_cores ticked
    ticked_alike left = alike s ticks left

    first_alike : HasLeft setting s (length ticks) → arrivals_since unlimited (length s.sent) (ticked_cores group s) ≡ first
    first_alike left =
        same_arrivals setting 1 (length s.sent) (drop (length s.sent) (ticked_cores group s).sent)
        ∙ ap (λ (t : GroupState). arrivals_since setting (length s.sent) t) (ticked_alike left)

    answered_alike : HasLeft setting s (length ticks + length first) → answered_cores group s ≡ answered setting s
    unfolding answered_cores answered ticked
    answered_alike left =
        let enough : HasLeft setting s (length ticks) = λ k. let has = left k in omega (arith, has) in
        ap (λ (steps : Schedule). cores_from group (ticked_cores group s) steps) (first_alike enough)
        ∙ ap (λ (t : GroupState). cores_from group t first) (ticked_alike enough)
        ∙ alike (ticked setting s) first (leaves s ticks (length first) left)

    -- the steps of a round for which there is room
    round_alike : HasLeft setting s (length (round_of_cores group s)) → round_of_cores group s ≡ round_steps setting s
    unfolding round_of_cores round_steps
    round_alike left =
        let one = arrivals_since unlimited (length s.sent) (ticked_cores group s) in
        let two = arrivals_since unlimited (length (ticked_cores group s).sent) (answered_cores group s) in
        let all = length-append ticks (one ++ two) in
        let both = length-append one two in
        let enough : HasLeft setting s (length ticks) = λ k. let has = left k in omega (arith, has, all) in
        let same = ap length (first_alike enough) in
        let enough_then : HasLeft setting s (length ticks + length first) = λ k. let has = left k in omega (arith, has, all, both, same) in
        let last : two ≡ arrivals_since setting (length (ticked setting s).sent) (answered setting s) =
        same_arrivals setting 1 (length (ticked_cores group s).sent) (drop (length (ticked_cores group s).sent) (answered_cores group s).sent)
        ∙ ap (λ (t : GroupState). arrivals_since setting (length t.sent) (answered_cores group s)) (ticked_alike enough)
        ∙ ap (λ (t : GroupState). arrivals_since setting (length (ticked setting s).sent) t) (answered_alike enough_then) in
        ap (λ (steps : Schedule). ticks ++ (steps ++ two)) (first_alike enough) ∙ ap (λ (steps : Schedule). ticks ++ (first ++ steps)) last

  -- and of so many rounds
  rounds_alike : (n : ℕ) (s : GroupState) → HasLeft setting s (length (rounds_of_cores group n s)) → rounds_of_cores group n s ≡ steps_of_rounds setting n s
  unfolding rounds_of_cores steps_of_rounds
  rounds_alike zero s left = refl
  rounds_alike (suc n) s left =
      let before = rounds_of_cores group n s in
      let round = round_of_cores group (cores_from group s before) in
      let all = length-append before round in
      let enough : HasLeft setting s (length before) = λ k. let has = left k in omega (arith, has, all) in
      let rounds : before ≡ steps_of_rounds setting n s = rounds_alike n s enough in
      let now : cores_from group s before ≡ run_from setting s before = alike s before enough in
      let room : HasLeft setting (run_from setting s before) (length round) = leaves s before (length round) (λ k. let has = left k in omega (arith, has, all)) in
      let one : round ≡ round_steps setting (run_from setting s before) =
      ap (round_of_cores group) now
      ∙ round_alike (run_from setting s before) (subst (λ (t : GroupState). HasLeft setting (run_from setting s before) (length (round_of_cores group t))) now room) in
      ap (λ (steps : Schedule). before ++ steps) one ∙ ap (λ (steps : Schedule). steps ++ round_steps setting (run_from setting s steps)) rounds

-- ---- behind a schedule

-- steps that follow a schedule, by the state behind it, and some steps more
module _ (group : Parameters) (steps : Schedule) (more : ℕ) (of_cores : GroupState → Schedule) where
  abbrev start : GroupState
  start = run_of_cores group steps

  -- the group, with room for all of them
  abbrev pub room_for : Setting
  room_for = record { group = group; limit = suc (length steps + (length (of_cores (run_of_cores group steps)) + more)) }

  starts_with : HasLeft room_for nothing_yet (length steps + (length (of_cores start) + more))
  starts_with k = omega arith

  pub start_alike : start ≡ run room_for steps
  start_alike = alike room_for nothing_yet steps (λ k. omega arith)

  left_then : HasLeft room_for (run room_for steps) (length (of_cores start) + more)
  left_then = leaves room_for nothing_yet steps (length (of_cores start) + more) starts_with

  left_for : HasLeft room_for (run room_for steps) (length (of_cores (run room_for steps)))
  left_for k = let has = left_then k in let same = ap (λ (t : GroupState). length (of_cores t)) start_alike in omega (arith, has, same)

  -- where they are those of members when there is room for them
  module _ (of_members : GroupState → Schedule) (same_steps : (s : GroupState) → HasLeft room_for s (length (of_cores s)) → of_cores s ≡ of_members s) where
    steps_are : of_cores (run room_for steps) ≡ of_members (run room_for steps)
    steps_are = same_steps (run room_for steps) left_for

    left_for_steps : HasLeft room_for (run room_for steps) (length (of_members (run room_for steps)))
    left_for_steps k = let has = left_for k in let same = ap length steps_are in omega (arith, has, same)

    -- no history is found full in them
    pub none_full_in_steps : FindNoneFull room_for (run room_for steps) (of_members (run room_for steps))
    none_full_in_steps = room_enough room_for (run room_for steps) (of_members (run room_for steps)) left_for_steps

    -- and they leave what they leave of members
    pub steps_run_alike : cores_from group start (of_cores start) ≡ run_from room_for (run room_for steps) (of_members (run room_for steps))
    steps_run_alike =
        ap (λ (t : GroupState). cores_from group t (of_cores t)) start_alike
        ∙ ap (cores_from group (run room_for steps)) steps_are
        ∙ alike room_for (run room_for steps) (of_members (run room_for steps)) left_for_steps

    left_behind_steps : HasLeft room_for (run_from room_for (run room_for steps) (of_members (run room_for steps))) more
    left_behind_steps =
        leaves room_for (run room_for steps) (of_members (run room_for steps)) more
        (λ k. let has = left_then k in
        let same = ap length steps_are in
        let begun = ap (λ (t : GroupState). length (of_cores t)) start_alike in
        omega (arith, has, same, begun))

-- such steps are so many rounds
module _ (group : Parameters) (steps : Schedule) (n more : ℕ) where
  abbrev pub roomy : Setting
  roomy = room_for group steps more (rounds_of_cores group n)

  pub none_full_in_rounds : FindNoneFull roomy (run roomy steps) (steps_of_rounds roomy n (run roomy steps))
  none_full_in_rounds = none_full_in_steps group steps more (rounds_of_cores group n) (steps_of_rounds roomy n) (rounds_alike roomy n)

  pub rounds_run_alike : cores_after_rounds group n (run_of_cores group steps) ≡ after_rounds roomy n (run roomy steps)
  rounds_run_alike = steps_run_alike group steps more (rounds_of_cores group n) (steps_of_rounds roomy n) (rounds_alike roomy n)

  pub left_behind : HasLeft roomy (after_rounds roomy n (run roomy steps)) more
  left_behind = left_behind_steps group steps more (rounds_of_cores group n) (steps_of_rounds roomy n) (rounds_alike roomy n)

is_roomy : (group : Parameters) (steps : Schedule) (n more : ℕ) → AreParameters group → IsSetting (roomy group steps n more)
is_roomy group steps n more are = record { group = are; one_or_more = omega arith }

-- ---- what rounds do

pub cores_have_everything : BehindRoundsOfCores rounds_to_deliver EverybodyHasEverything
cores_have_everything setting steps are =
    let n = rounds_to_deliver setting in
    let room = roomy setting.group steps n 0 in
    subst (EverybodyHasEverything setting) (sym (rounds_run_alike setting.group steps n 0))
    (rounds_deliver room steps (is_roomy setting.group steps n 0 are) (none_full_in_rounds setting.group steps n 0))

pub cores_have_the_same : BehindRoundsOfCores rounds_to_deliver EverybodyHasTheSame
cores_have_the_same setting steps are =
    let n = rounds_to_deliver setting in
    let room = roomy setting.group steps n 0 in
    subst (EverybodyHasTheSame setting) (sym (rounds_run_alike setting.group steps n 0))
    (then_all_have_the_same room steps (is_roomy setting.group steps n 0 are) (none_full_in_rounds setting.group steps n 0))

pub cores_miss_nothing : BehindRoundsOfCores rounds_to_deliver NothingIsMissing
cores_miss_nothing setting steps are =
    let n = rounds_to_deliver setting in
    let room = roomy setting.group steps n 0 in
    subst (NothingIsMissing setting) (sym (rounds_run_alike setting.group steps n 0))
    (then_nothing_is_missing room steps (is_roomy setting.group steps n 0 are) (none_full_in_rounds setting.group steps n 0))

pub cores_make_stable : BehindRoundsOfCores rounds_to_be_stable EverythingIsStable
cores_make_stable setting steps are =
    let n = rounds_to_be_stable setting in
    let room = roomy setting.group steps n 0 in
    subst (EverythingIsStable setting) (sym (rounds_run_alike setting.group steps n 0))
    (rounds_make_stable room steps (is_roomy setting.group steps n 0 are) (none_full_in_rounds setting.group steps n 0))

pub cores_tell_what_is_stable : BehindRoundsOfCores rounds_to_be_stable EverybodyKnowsWhatIsStable
cores_tell_what_is_stable setting steps are =
    let n = rounds_to_be_stable setting in
    let room = roomy setting.group steps n 0 in
    subst (EverybodyKnowsWhatIsStable setting) (sym (rounds_run_alike setting.group steps n 0))
    (rounds_tell_what_is_stable room steps (is_roomy setting.group steps n 0 are) (none_full_in_rounds setting.group steps n 0))

pub cores_change_no_more : BehindRoundsOfCores rounds_to_be_stable NoCoreChangesAnyMore
cores_change_no_more setting steps are more k none =
    let n = rounds_to_be_stable setting in
    let room = roomy setting.group steps n (length more) in
    let now = after_rounds room n (run room steps) in
    subst (λ (s : GroupState). (cores_from setting.group s more).histories k ≡ s.histories k) (sym (rounds_run_alike setting.group steps n (length more)))
    (ap (λ (s : GroupState). s.histories k) (alike room now more (left_behind setting.group steps n (length more)))
    ∙ then_nothing_changes room steps (is_roomy setting.group steps n (length more) are) (none_full_in_rounds setting.group steps n (length more)) more k none)
