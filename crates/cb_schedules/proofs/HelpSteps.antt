-- The steps of rounds without a silent member: each other one ticks once in a round, and that one does nothing.
use Rattle.std.proofs.Common.{◌≡◌, ◌≢◌, ℕ, zero, suc, ◌+◌, ◌≤◌, not, cond, ◌&&◌, eqb, ltb, List, [], ◌∷◌, ◌++◌, length, drop, map, length-append, refl, sym, ap, subst, ◌∙◌, arith}
use Rattle.std.specs.List.{AllByRecursion, flat_map, range_with_len}
use Rattle.std.proofs.lemmas.Bool.{eqb-false}
use Rattle.cb_history.proofs.Views.{IsIn, filter_in, not_true}
use Rattle.cb_schedules.specs.Schedule.{Setting, Step, CastStep, ArriveStep, TickStep, HelpStep, Schedule, SentFrame, GroupState, run_from, run}
use Rattle.cb_schedules.specs.Rounds.{receivers}
use Rattle.cb_schedules.specs.RoundLaws.{ticks_of, IsNoCastStep}
use Rattle.cb_schedules.specs.HelpRounds.{all_but, others_tick, other_receivers, others_take, others_take_since, others_ask, help_round, help_rounds_by, help_rounds, after_help_rounds}
use Rattle.cb_schedules.specs.HelpRoundLaws.{member_of_step, EachOtherTicksOnce, SilentDoesNothing, HelpRoundsCastNothing, HelpRoundsAreSteps}
use Rattle.cb_schedules.proofs.GoingOn.{runs_join, runs_join_from}
use Rattle.cb_schedules.proofs.Lists.{all_both, all_map, all_flat, all_weaken}
use Rattle.cb_schedules.proofs.Later.{IsLater, later_joins, run_is_later}
use Rattle.cb_schedules.proofs.Once.{times_in, once, ticks-append, no_ticks_to}
use Rattle.cb_schedules.proofs.HelpWaves.{Lives, others_ticking_cast_nothing, others_taking_cast_nothing, others_asking_cast_nothing, others_ticked, others_answered, others_supplied, help_asked, help_answered, round_is_its_waves, first_arrivals, supplies, help_arrivals, handed_arrivals, from_help}
use Rattle.cb_schedules.proofs.Holding.{IsOfOthers}

-- ---- who acts, and what arrives

is_other : (size silent k : ℕ) → IsIn k (all_but size silent) → Lives silent k
is_other size silent k there = eqb-false k silent (not_true (eqb k silent) (filter_in (λ k. not (eqb k silent)) (range_with_len 0 size) k there).0)

module _ (setting : Setting) (silent count : ℕ) where
  abbrev OfOthers : Schedule → Type 0
  OfOthers steps = AllByRecursion (IsOfOthers silent count) steps

  ticks_are_theirs : OfOthers (others_tick setting.group.size silent)
  ticks_are_theirs = all_map (IsOfOthers silent count) TickStep (all_but setting.group.size silent) (λ k there. is_other setting.group.size silent k there)

  asks_are_theirs : OfOthers (others_ask setting.group.size silent)
  asks_are_theirs =
      all_flat (IsOfOthers silent count) (λ j. map (HelpStep j) (all_but setting.group.size j)) (all_but setting.group.size silent) (λ j there.
      all_map (IsOfOthers silent count) (HelpStep j) (all_but setting.group.size j) (λ i at. is_other setting.group.size silent j there))

  takes_are_theirs : (number : ℕ) (frames : List SentFrame) → count ≤ number → OfOthers (others_take setting.group.size silent number frames)
  takes_are_theirs number [] le = tt
  takes_are_theirs number (frame ∷ frames) le =
      all_both (IsOfOthers silent count) (map (λ j. ArriveStep j number) (other_receivers setting.group.size silent frame)) (others_take setting.group.size silent (number + 1) frames)
      (all_map (IsOfOthers silent count) (λ j. ArriveStep j number) (other_receivers setting.group.size silent frame) (λ j there.
      (eqb-false j silent (not_true (eqb j silent) (filter_in (λ k. not (eqb k silent)) (receivers setting.group.size frame.from frame.to) j there).0), le)))
      (takes_are_theirs (number + 1) frames (omega (arith, le)))

as_many_sent : (s t : GroupState) → IsLater s t → length s.sent ≤ length t.sent
as_many_sent s t later =
    let sum = ap length later.sent ∙ length-append s.sent later.new in
    omega (arith, sum)

-- all steps of a round are theirs, and what arrives was sent in it
pub round_is_of_others : (setting : Setting) (silent : ℕ) (s : GroupState) → AllByRecursion (IsOfOthers silent (length s.sent)) (help_round setting silent s)
unfolding others_ticked others_answered others_supplied help_asked help_answered
round_is_of_others setting silent s =
    let ticked = others_ticked setting silent s in
    let answered = others_answered setting silent s in
    let supplied = others_supplied setting silent s in
    let asked = help_asked setting silent s in
    let helped = help_answered setting silent s in
    let count = length s.sent in
    let Of : Step → Type 0 = IsOfOthers silent (length s.sent) in
    let takes : (first now : GroupState) → IsLater s first → AllByRecursion (IsOfOthers silent (length s.sent)) (others_take_since setting.group.size silent (length first.sent) now) =
    λ first now later. takes_are_theirs setting silent (length s.sent) (length first.sent) (drop (length first.sent) now.sent) (as_many_sent s first later) in
    let to_ticked = run_is_later setting s (others_tick setting.group.size silent) (others_ticking_cast_nothing setting silent) in
    let to_answered = later_joins s ticked answered to_ticked (run_is_later setting ticked (first_arrivals setting silent s) (others_taking_cast_nothing setting silent (length s.sent) (drop (length s.sent) ticked.sent))) in
    let to_supplied = later_joins s answered supplied to_answered (run_is_later setting answered (supplies setting silent s) (others_taking_cast_nothing setting silent (length ticked.sent) (drop (length ticked.sent) answered.sent))) in
    let to_asked = later_joins s supplied asked to_supplied (run_is_later setting supplied (others_ask setting.group.size silent) (others_asking_cast_nothing setting silent)) in
    subst (AllByRecursion (IsOfOthers silent (length s.sent))) (sym (round_is_its_waves setting silent s))
    (all_both Of (others_tick setting.group.size silent) (first_arrivals setting silent s ++ (supplies setting silent s ++ from_help setting silent s)) (ticks_are_theirs setting silent count)
    (all_both Of (first_arrivals setting silent s) (supplies setting silent s ++ from_help setting silent s) (takes_are_theirs setting silent count count (drop count ticked.sent) (omega arith))
    (all_both Of (supplies setting silent s) (from_help setting silent s) (takes ticked answered to_ticked)
    (all_both Of (others_ask setting.group.size silent) (help_arrivals setting silent s ++ handed_arrivals setting silent s) (asks_are_theirs setting silent count)
    (all_both Of (help_arrivals setting silent s) (handed_arrivals setting silent s) (takes supplied asked to_supplied) (takes asked helped to_asked))))))

theirs_cast_nothing : (silent count : ℕ) (step : Step) → IsOfOthers silent count step → IsNoCastStep step
theirs_cast_nothing silent count (CastStep i load) is = is
theirs_cast_nothing silent count (ArriveStep j number) is = tt
theirs_cast_nothing silent count (TickStep i) is = tt
theirs_cast_nothing silent count (HelpStep j i) is = tt

theirs_are_no_silent : (silent count : ℕ) (step : Step) → IsOfOthers silent count step → member_of_step step ≢ silent
theirs_are_no_silent silent count (CastStep i load) is = absurd is
theirs_are_no_silent silent count (ArriveStep j number) is = is.0
theirs_are_no_silent silent count (TickStep i) is = is
theirs_are_no_silent silent count (HelpStep j i) is = is

pub help_round_casts_nothing : (setting : Setting) (silent : ℕ) (s : GroupState) → AllByRecursion IsNoCastStep (help_round setting silent s)
help_round_casts_nothing setting silent s = all_weaken (IsOfOthers silent (length s.sent)) IsNoCastStep (help_round setting silent s) (theirs_cast_nothing silent (length s.sent)) (round_is_of_others setting silent s)

-- ---- rounds

rounds_are_so : (P : Step → Type 0) (setting : Setting) (silent : ℕ) → ((s : GroupState) → AllByRecursion P (help_round setting silent s)) → (n : ℕ) (s : GroupState) → AllByRecursion P (help_rounds setting silent n s)
unfolding help_rounds_by
rounds_are_so P setting silent each zero s = tt
rounds_are_so P setting silent each (suc n) s =
    all_both P (help_rounds setting silent n s) (help_round setting silent (after_help_rounds setting silent n s)) (rounds_are_so P setting silent each n s) (each (after_help_rounds setting silent n s))

pub help_rounds_cast_nothing : HelpRoundsCastNothing
help_rounds_cast_nothing setting silent n s = rounds_are_so IsNoCastStep setting silent (help_round_casts_nothing setting silent) n s

pub silent_does_nothing : SilentDoesNothing
silent_does_nothing setting silent n s =
    rounds_are_so (λ step. member_of_step step ≢ silent) setting silent (λ now.
    all_weaken (IsOfOthers silent (length now.sent)) (λ step. member_of_step step ≢ silent) (help_round setting silent now) (theirs_are_no_silent silent (length now.sent)) (round_is_of_others setting silent now)) n s

pub help_rounds_are_steps : HelpRoundsAreSteps
help_rounds_are_steps setting silent n steps = sym (runs_join setting steps (help_rounds setting silent n (run setting steps)))

-- one round more
pub next_help_round : (setting : Setting) (silent n : ℕ) (s : GroupState)
    → after_help_rounds setting silent (suc n) s ≡ run_from setting (after_help_rounds setting silent n s) (help_round setting silent (after_help_rounds setting silent n s))
unfolding help_rounds_by
next_help_round setting silent n s = runs_join_from setting s (help_rounds setting silent n s) (help_round setting silent (after_help_rounds setting silent n s))

-- ---- ticks

theirs_tick : (i : ℕ) (js : List ℕ) → ticks_of i (map TickStep js) ≡ times_in i js
unfolding times_in
theirs_tick i [] = refl
theirs_tick i (j ∷ js) = ap (λ (k : ℕ). cond (eqb j i) 1 0 + k) (theirs_tick i js)

no_ticks_in_takes : (setting : Setting) (silent i number : ℕ) (frames : List SentFrame) → ticks_of i (others_take setting.group.size silent number frames) ≡ 0
no_ticks_in_takes setting silent i number [] = refl
no_ticks_in_takes setting silent i number (frame ∷ frames) =
    let here = no_ticks_to i number (other_receivers setting.group.size silent frame) in
    let rest = no_ticks_in_takes setting silent i (number + 1) frames in
    let both = ticks-append i (map (λ j. ArriveStep j number) (other_receivers setting.group.size silent frame)) (others_take setting.group.size silent (number + 1) frames) in
    omega (arith, here, rest, both)

no_ticks_in_asks_for : (i j : ℕ) (ks : List ℕ) → ticks_of i (map (HelpStep j) ks) ≡ 0
no_ticks_in_asks_for i j [] = refl
no_ticks_in_asks_for i j (k ∷ ks) = no_ticks_in_asks_for i j ks

no_ticks_in_asks : (setting : Setting) (i : ℕ) (js : List ℕ) → ticks_of i (flat_map (λ j. map (HelpStep j) (all_but setting.group.size j)) js) ≡ 0
no_ticks_in_asks setting i [] = refl
no_ticks_in_asks setting i (j ∷ js) =
    let here = no_ticks_in_asks_for i j (all_but setting.group.size j) in
    let rest = no_ticks_in_asks setting i js in
    let both = ticks-append i (map (HelpStep j) (all_but setting.group.size j)) (flat_map (λ j. map (HelpStep j) (all_but setting.group.size j)) js) in
    omega (arith, here, rest, both)

pub each_other_ticks_once : EachOtherTicksOnce
each_other_ticks_once setting silent i s =
    let takes : (count : ℕ) (now : GroupState) → ticks_of i (others_take_since setting.group.size silent count now) ≡ 0 = λ count now. no_ticks_in_takes setting silent i count (drop count now.sent) in
    let a = first_arrivals setting silent s in
    let b = supplies setting silent s in
    let c = help_arrivals setting silent s in
    let d = handed_arrivals setting silent s in
    let none_a : ticks_of i a ≡ 0 = takes (length s.sent) (others_ticked setting silent s) in
    let none_b : ticks_of i b ≡ 0 = takes (length (others_ticked setting silent s).sent) (others_answered setting silent s) in
    let none_c : ticks_of i c ≡ 0 = takes (length (others_supplied setting silent s).sent) (help_asked setting silent s) in
    let none_d : ticks_of i d ≡ 0 = takes (length (help_asked setting silent s).sent) (help_answered setting silent s) in
    let none_asked = no_ticks_in_asks setting i (all_but setting.group.size silent) in
    let first = ticks-append i (others_tick setting.group.size silent) (a ++ (b ++ (others_ask setting.group.size silent ++ (c ++ d)))) in
    let second = ticks-append i a (b ++ (others_ask setting.group.size silent ++ (c ++ d))) in
    let third = ticks-append i b (others_ask setting.group.size silent ++ (c ++ d)) in
    let fourth = ticks-append i (others_ask setting.group.size silent) (c ++ d) in
    let fifth = ticks-append i c d in
    let e : 0 + setting.group.size ≡ setting.group.size = omega arith in
    let here : ticks_of i (others_tick setting.group.size silent) ≡ cond (ltb i setting.group.size && not (eqb i silent)) 1 0 =
    theirs_tick i (all_but setting.group.size silent) ∙ once (λ k. not (eqb k silent)) 0 setting.group.size i (omega arith) ∙ ap (λ (k : ℕ). cond (ltb i k && not (eqb i silent)) 1 0) e in
    ap (ticks_of i) (round_is_its_waves setting silent s) ∙ omega (arith, none_a, none_b, none_c, none_d, none_asked, first, second, third, fourth, fifth) ∙ here
