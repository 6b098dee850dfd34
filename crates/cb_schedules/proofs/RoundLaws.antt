-- Rounds behind any schedule.
use Rattle.std.proofs.Common.{◌≡◌, ℕ, zero, suc, ◌+◌, ◌*◌, ◌≤◌, min, sym, ap, subst, ◌∙◌, arith}
use Rattle.std.specs.Int.{div_ceil}
use Rattle.std.proofs.lemmas.Grind.{div_ceil_times}
use Rattle.cb_frames.specs.declared.frame.TheConstants.{MOST_FRAMES}
use Rattle.cb_history.specs.Facts.{casts_in}
use Rattle.cb_history.specs.Known.{expanded_count}
use Rattle.cb_history.specs.Answers.{delivered}
use Rattle.cb_history.proofs.Runs.{run_at_most}
use Rattle.cb_schedules.specs.Schedule.{Setting, IsSetting, seat_at, Schedule, GroupState, run_from, run}
use Rattle.cb_schedules.specs.Messages.{facts_at}
use Rattle.cb_schedules.specs.Consistent.{IsConsistent}
use Rattle.cb_schedules.specs.Headline.{IsCausalBroadcast, EachSchedule}
use Rattle.cb_schedules.specs.Rounds.{round_steps, steps_of_rounds, after_rounds, FindNoneFull}
use Rattle.cb_schedules.specs.RoundLaws.{EverybodyHasEverything, EverybodyHasTheSame, NothingIsMissing, EverythingIsStable, EverybodyKnowsWhatIsStable, NothingChangesAnyMore, BehindRounds, rounds_to_deliver, rounds_to_be_stable, FurtherRoundsAreQuiet, one_round, RoundsAreSteps, RoundsCastNothing, AnswersPutNothingOut, EachArrivesOnce, EverybodyHasHeard, RoundsExpand, ArrivedEverywhereIsDelivered, TheseAreFew}
use Rattle.cb_schedules.proofs.GoingOn.{runs_join}
use Rattle.cb_schedules.proofs.Courses.{runs_are_consistent}
use Rattle.cb_schedules.proofs.Headlines.{each_schedule, headline_holds}
use Rattle.cb_schedules.proofs.Later.{own_casts_later}
use Rattle.cb_schedules.proofs.Happening.{FindNoneFullFrom, none_full_from}
use Rattle.cb_schedules.proofs.Waves.{AllLive, waves_of}
use Rattle.cb_schedules.proofs.Asking.{cast_comes}
use Rattle.cb_schedules.proofs.Repairing.{rounds_cast_nothing, next_round, rounds_are_later, consistent_behind, last_round, none_full_before, everybody_heard_behind, HasAll, all_behind, has_everything, has_the_same, none_missing, all_delivered, arrived_is_delivered}
use Rattle.cb_schedules.proofs.Quieting.{IsQuiet, round_makes_quiet, everything_is_stable, everybody_knows_what_is_stable, quiet_stays}
use Rattle.cb_schedules.proofs.Ending.{round_ends_there}
use Rattle.cb_schedules.proofs.Once.{arrives_once}

-- ---- rounds

pub rounds_are_steps : RoundsAreSteps
rounds_are_steps setting steps n = sym (runs_join setting steps (steps_of_rounds setting n (run setting steps)))

pub nobody_casts : RoundsCastNothing
nobody_casts setting s n i = own_casts_later s (after_rounds setting n s) (rounds_are_later setting n s) i

pub answers_put_nothing_out : AnswersPutNothingOut
answers_put_nothing_out setting steps is = round_ends_there setting is (run setting steps) (runs_are_consistent setting steps is)

-- so many rounds and then some more
rounds_join : (setting : Setting) (n more : ℕ) (s : GroupState) → after_rounds setting (n + more) s ≡ after_rounds setting more (after_rounds setting n s)
unfolding steps_of_rounds run_from
rounds_join setting n zero s = let e : n + 0 ≡ n = omega arith in ap (λ (k : ℕ). after_rounds setting k s) e
rounds_join setting n (suc more) s =
    let e : n + suc more ≡ suc (n + more) = omega arith in
    ap (λ (k : ℕ). after_rounds setting k s) e ∙ next_round setting (n + more) s
    ∙ ap (λ (t : GroupState). run_from setting t (round_steps setting t)) (rounds_join setting n more s) ∙ sym (next_round setting more (after_rounds setting n s))

-- what is so of each consistent state, behind rounds
pub behind_rounds : (rounds : Setting → ℕ) (P : Setting → GroupState → Type 0) → ((setting : Setting) (s : GroupState) → IsConsistent setting s → P setting s) → BehindRounds rounds P
behind_rounds rounds P holds setting steps is none =
    let s = run setting steps in
    holds setting (after_rounds setting (rounds setting) s) (consistent_behind setting is s (runs_are_consistent setting steps is) (rounds setting))

-- ---- the first round, and each

pub everybody_hears : BehindRounds one_round EverybodyHasHeard
everybody_hears setting steps is none =
    let s = run setting steps in
    everybody_heard_behind setting is s (runs_are_consistent setting steps is) 0 (none_full_from setting s (steps_of_rounds setting 1 s) none)

pub rounds_expand : RoundsExpand
rounds_expand setting steps j i is heard none lt_j lt_i ne =
    let s = run setting steps in
    let inv = runs_are_consistent setting steps is in
    let t = run_from setting s (round_steps setting s) in
    let w = waves_of setting is s inv (none_full_from setting s (round_steps setting s) none) in
    let known_all = heard j i lt_j lt_i ne in
    let most = min (delivered (seat_at setting i) (facts_at s i) i) (expanded_count (casts_in (facts_at s j)) i + MOST_FRAMES) in
    run_at_most (casts_in (facts_at t j)) i most (λ k low high.
    cast_comes AllLive setting s t inv w i j k lt_i lt_j tt tt ne low (omega (arith, high)) (omega (arith, high, known_all)) (omega (arith, high)))

-- ---- enough rounds

pub these_are_few : TheseAreFew
these_are_few setting is =
    let bounds = div_ceil_times setting.group.window MOST_FRAMES (omega arith) in
    let one = is.group.width.one_or_more in
    let most = is.group.width.at_most_widest in
    ((λ narrow. omega (arith, bounds.0, bounds.1, one, narrow)), omega (arith, bounds.1, most))

module _ (setting : Setting) (steps : Schedule) (is : IsSetting setting) where
  abbrev start : GroupState
  start = run setting steps

  inv : IsConsistent setting (run setting steps)
  inv = runs_are_consistent setting steps is

  abbrev asking_rounds : ℕ
  asking_rounds = div_ceil setting.group.window MOST_FRAMES

  wide : setting.group.window ≤ asking_rounds * MOST_FRAMES
  wide = (div_ceil_times setting.group.window MOST_FRAMES (omega arith)).0

  deliver_is : rounds_to_deliver setting ≡ suc asking_rounds
  deliver_is = omega arith

  stable_is : rounds_to_be_stable setting ≡ suc (suc asking_rounds)
  stable_is = omega arith

  all_there : FindNoneFullFrom setting start (steps_of_rounds setting (suc asking_rounds) start) → HasAll setting (after_rounds setting (suc asking_rounds) start)
  all_there none = all_behind setting is start inv asking_rounds wide none

  pub has_all : FindNoneFull setting (run setting steps) (steps_of_rounds setting (rounds_to_deliver setting) (run setting steps)) → HasAll setting (after_rounds setting (rounds_to_deliver setting) (run setting steps))
  has_all none =
      subst (λ (n : ℕ). FindNoneFullFrom setting start (steps_of_rounds setting n start) → HasAll setting (after_rounds setting n start)) (sym deliver_is) all_there
      (none_full_from setting start (steps_of_rounds setting (rounds_to_deliver setting) start) none)

  quiet_there : FindNoneFullFrom setting start (steps_of_rounds setting (suc (suc asking_rounds)) start) → IsQuiet setting (facts_at (after_rounds setting (suc (suc asking_rounds)) start))
  quiet_there none =
      let before = (none_full_before setting (suc asking_rounds) start none).0 in
      let now = consistent_behind setting is start inv (suc asking_rounds) in
      round_makes_quiet setting (after_rounds setting (suc asking_rounds) start) (after_rounds setting (suc (suc asking_rounds)) start) now (last_round setting is start inv (suc asking_rounds) none)
      (all_delivered setting (after_rounds setting (suc asking_rounds) start) now (all_there before))

  pub is_quiet : FindNoneFull setting (run setting steps) (steps_of_rounds setting (rounds_to_be_stable setting) (run setting steps)) → IsQuiet setting (facts_at (after_rounds setting (rounds_to_be_stable setting) (run setting steps)))
  is_quiet none =
      subst (λ (n : ℕ). FindNoneFullFrom setting start (steps_of_rounds setting n start) → IsQuiet setting (facts_at (after_rounds setting n start))) (sym stable_is) quiet_there
      (none_full_from setting start (steps_of_rounds setting (rounds_to_be_stable setting) start) none)

  pub consistent_then : (n : ℕ) → IsConsistent setting (after_rounds setting n (run setting steps))
  consistent_then n = consistent_behind setting is start inv n

pub rounds_deliver : BehindRounds rounds_to_deliver EverybodyHasEverything
rounds_deliver setting steps is none = has_everything setting (after_rounds setting (rounds_to_deliver setting) (run setting steps)) (consistent_then setting steps is (rounds_to_deliver setting)) (has_all setting steps is none)

pub then_all_have_the_same : BehindRounds rounds_to_deliver EverybodyHasTheSame
then_all_have_the_same setting steps is none = has_the_same setting (after_rounds setting (rounds_to_deliver setting) (run setting steps)) (consistent_then setting steps is (rounds_to_deliver setting)) (has_all setting steps is none)

pub then_nothing_is_missing : BehindRounds rounds_to_deliver NothingIsMissing
then_nothing_is_missing setting steps is none = none_missing setting (after_rounds setting (rounds_to_deliver setting) (run setting steps)) (consistent_then setting steps is (rounds_to_deliver setting)) (has_all setting steps is none)

pub still_causal : BehindRounds rounds_to_deliver IsCausalBroadcast
still_causal = behind_rounds rounds_to_deliver IsCausalBroadcast (λ setting s inv. (headline_holds setting s inv).causal)

pub rounds_make_stable : BehindRounds rounds_to_be_stable EverythingIsStable
rounds_make_stable setting steps is none = everything_is_stable setting (after_rounds setting (rounds_to_be_stable setting) (run setting steps)) (consistent_then setting steps is (rounds_to_be_stable setting)) (is_quiet setting steps is none)

pub rounds_tell_what_is_stable : BehindRounds rounds_to_be_stable EverybodyKnowsWhatIsStable
rounds_tell_what_is_stable setting steps is none =
    everybody_knows_what_is_stable setting (after_rounds setting (rounds_to_be_stable setting) (run setting steps)) (consistent_then setting steps is (rounds_to_be_stable setting)) (is_quiet setting steps is none)

pub then_nothing_changes : BehindRounds rounds_to_be_stable NothingChangesAnyMore
then_nothing_changes setting steps is none = quiet_stays setting is (after_rounds setting (rounds_to_be_stable setting) (run setting steps)) (consistent_then setting steps is (rounds_to_be_stable setting)) (is_quiet setting steps is none)

pub further_rounds_are_quiet : FurtherRoundsAreQuiet
further_rounds_are_quiet setting steps more k is none =
    let now = after_rounds setting (rounds_to_be_stable setting) (run setting steps) in
    ap (λ (t : GroupState). t.histories k) (rounds_join setting (rounds_to_be_stable setting) more (run setting steps))
    ∙ then_nothing_changes setting steps is none (steps_of_rounds setting more now) k (rounds_cast_nothing setting more now)

pub arrived_everywhere_is_delivered : EachSchedule ArrivedEverywhereIsDelivered
arrived_everywhere_is_delivered = each_schedule ArrivedEverywhereIsDelivered arrived_is_delivered

pub each_arrives_once : EachArrivesOnce
each_arrives_once setting steps number j frame is new at = arrives_once setting is (run setting steps) (runs_are_consistent setting steps is) number j frame new at
