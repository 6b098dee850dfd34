-- A round without a silent member as its waves: those of what is asked for and supplied, and then those of help.
use Rattle.std.proofs.Common.{◌≡◌, ◌≢◌, ℕ, ◌+◌, ◌<◌, not, eqb, suc, List, [], ◌∷◌, ◌++◌, length, drop, map, Some, refl, sym, ap, subst, ◌∙◌, arith, inl, inr}
use Rattle.std.specs.Prelude.{slice_get}
use Rattle.std.specs.List.{AllByRecursion, range_with_len}
use Rattle.std.proofs.lemmas.Bool.{lt-ltb, ne_eqb}
use Rattle.std.proofs.lemmas.List.{append-nil}
use Rattle.std.proofs.Math.Seq.{drop-append_seam}
use Rattle.cb_history.specs.declared.answer.Outgoing.{Outgoing}
use Rattle.cb_history.specs.Helping.{help_answer}
use Rattle.cb_history.specs.Legal.{ToHelp}
use Rattle.cb_history.proofs.Views.{IsIn, in_filter}
use Rattle.cb_history.proofs.Lists.{in_front, in_back}
use Rattle.cb_history.proofs.Keeping.{in_range}
use Rattle.cb_schedules.specs.Schedule.{Setting, IsSetting, seat_at, ArriveStep, TickStep, HelpStep, Schedule, SentFrame, Calls, HelpAnswer, frames_sent, sent_by, GroupState, asked_by, step_after, run_from}
use Rattle.cb_schedules.specs.Consistent.{IsConsistent}
use Rattle.cb_schedules.specs.Rounds.{receivers}
use Rattle.cb_schedules.specs.RoundLaws.{IsNoCastStep}
use Rattle.cb_schedules.specs.HelpRounds.{all_but, others_tick, other_receivers, others_take, others_take_since, others_ask, in_waves, help_round_by, help_round}
use Rattle.cb_schedules.proofs.GoingOn.{runs_join_from}
use Rattle.cb_schedules.proofs.Courses.{consistent_from}
use Rattle.cb_schedules.proofs.Lists.{in_map, in_flat, all_both, all_map, all_flat}
use Rattle.cb_schedules.proofs.Later.{IsLater, later_joins, step_is_later, run_is_later}
use Rattle.cb_schedules.proofs.Happening.{FindNoneFullFrom, happens, IsSentSince, sent_out_is_sent, get_behind, ticks_cast_nothing}
use Rattle.cb_schedules.proofs.Waves.{Takes, tick_happens, arrival_happens, none_full_splits, Waves}

-- all but the silent member live
abbrev pub Lives : ℕ → ℕ → Type 0
Lives silent j = j ≢ silent

pub other_is_in : (size silent k : ℕ) → k < size → k ≢ silent → IsIn k (all_but size silent)
other_is_in size silent k lt ne = in_filter (λ k. not (eqb k silent)) (range_with_len 0 size) k (rw (ne_eqb k silent ne) refl) (in_range 0 size k (omega arith) (omega (arith, lt)))

-- ---- the steps cast nothing

pub others_ticking_cast_nothing : (setting : Setting) (silent : ℕ) → AllByRecursion IsNoCastStep (others_tick setting.group.size silent)
others_ticking_cast_nothing setting silent = ticks_cast_nothing (all_but setting.group.size silent)

pub others_taking_cast_nothing : (setting : Setting) (silent number : ℕ) (frames : List SentFrame) → AllByRecursion IsNoCastStep (others_take setting.group.size silent number frames)
others_taking_cast_nothing setting silent number [] = tt
others_taking_cast_nothing setting silent number (frame ∷ frames) =
    all_both IsNoCastStep (map (λ j. ArriveStep j number) (other_receivers setting.group.size silent frame)) (others_take setting.group.size silent (number + 1) frames)
    (all_map IsNoCastStep (λ j. ArriveStep j number) (other_receivers setting.group.size silent frame) (λ j there. tt)) (others_taking_cast_nothing setting silent (number + 1) frames)

pub others_asking_cast_nothing : (setting : Setting) (silent : ℕ) → AllByRecursion IsNoCastStep (others_ask setting.group.size silent)
others_asking_cast_nothing setting silent =
    all_flat IsNoCastStep (λ j. map (HelpStep j) (all_but setting.group.size j)) (all_but setting.group.size silent) (λ j there.
    all_map IsNoCastStep (HelpStep j) (all_but setting.group.size j) (λ i at. tt))

-- ---- help is asked for

-- member j asks for help for sender i on the way from s to t, and what it sends is sent
pub record Asks (setting : Setting) (s t : GroupState) (j i : ℕ) : Type 0 where
  pub now : GroupState
  pub consistent : IsConsistent setting now
  pub before : IsLater s now
  pub rest : IsLater now t
  pub sends : (out : Outgoing) → IsIn out (frames_sent (HelpAnswer (help_answer (seat_at setting j) (now.histories j) i))) → IsSentSince s t (sent_by j out)

each_asks : (setting : Setting) → IsSetting setting → (silent : ℕ) (s : GroupState) → IsConsistent setting s → FindNoneFullFrom setting s (others_ask setting.group.size silent)
    → (j i : ℕ) → j < setting.group.size → i < setting.group.size → Lives silent j → i ≢ j → Asks setting s (run_from setting s (others_ask setting.group.size silent)) j i
each_asks setting is silent s inv none j i lt_j lt_i live ne =
    let steps = others_ask setting.group.size silent in
    let there = in_flat (λ j. map (HelpStep j) (all_but setting.group.size j)) (all_but setting.group.size silent) j (HelpStep j i) (other_is_in setting.group.size silent j lt_j live)
    (in_map (HelpStep j) (all_but setting.group.size j) i (other_is_in setting.group.size j i lt_i ne)) in
    let h = happens setting is s inv steps (others_asking_cast_nothing setting silent) none (HelpStep j i) there in
    let asks : asked_by setting h.now.sent (HelpStep j i) ≡ Calls j (ToHelp i) = rw (lt-ltb j setting.group.size lt_j) refl in
    record {
      now = h.now;
      consistent = h.consistent;
      before = h.before;
      rest = later_joins h.now (step_after setting h.now (HelpStep j i)) (run_from setting s steps) (step_is_later setting h.now (HelpStep j i) tt) h.after;
      sends = λ out there. sent_out_is_sent setting s (run_from setting s steps) (HelpStep j i) j (ToHelp i) h out asks there;
    }

-- ---- an arrival

-- a frame among these arrives at each of the others that it was sent to
other_arrives : (setting : Setting) (silent number : ℕ) (frames : List SentFrame) (frame : SentFrame) (j : ℕ) → IsIn frame frames → IsIn j (other_receivers setting.group.size silent frame)
    → (k : ℕ) × (slice_get frames k ≡ Some frame) × IsIn (ArriveStep j (number + k)) (others_take setting.group.size silent number frames)
other_arrives setting silent number [] frame j there to = absurd there
other_arrives setting silent number (first ∷ frames) frame j (inl same) to =
    let here = in_map (λ j. ArriveStep j number) (other_receivers setting.group.size silent first) j (subst (λ (f : SentFrame). IsIn j (other_receivers setting.group.size silent f)) same to) in
    let e : number ≡ number + 0 = omega arith in (
      0,
      ap Some (sym same),
      subst (λ (n : ℕ). IsIn (ArriveStep j n) (others_take setting.group.size silent number (first ∷ frames))) e
          (in_front (ArriveStep j number) (map (λ j. ArriveStep j number) (other_receivers setting.group.size silent first)) (others_take setting.group.size silent (number + 1) frames) here),
    )
other_arrives setting silent number (first ∷ frames) frame j (inr later) to =
    let (k, at, step) = other_arrives setting silent (number + 1) frames frame j later to in
    let e : number + 1 + k ≡ number + suc k = omega arith in (
      suc k,
      at,
      subst (λ (n : ℕ). IsIn (ArriveStep j n) (others_take setting.group.size silent number (first ∷ frames))) e
          (in_back (ArriveStep j (number + 1 + k)) (map (λ j. ArriveStep j number) (other_receivers setting.group.size silent first)) (others_take setting.group.size silent (number + 1) frames) step),
    )

-- what was sent between two states arrives at each of the others that it was sent to in the wave behind the second one
other_takes : (setting : Setting) → IsSetting setting → (silent : ℕ) (first s : GroupState) → IsConsistent setting s → IsLater first s → FindNoneFullFrom setting s (others_take_since setting.group.size silent (length first.sent) s)
    → (frame : SentFrame) (j : ℕ) → IsSentSince first s frame → IsIn j (receivers setting.group.size frame.from frame.to) → j < setting.group.size → Lives silent j
    → Takes setting s (run_from setting s (others_take_since setting.group.size silent (length first.sent) s)) frame j
other_takes setting is silent first s inv later none frame j since to lt live =
    let frames = drop (length first.sent) s.sent in
    let new : frames ≡ later.new = ap (drop (length first.sent)) later.sent ∙ drop-append_seam first.sent later.new in
    let receives = in_filter (λ j. not (eqb j silent)) (receivers setting.group.size frame.from frame.to) j (rw (ne_eqb j silent live) refl) to in
    let (k, found, step) = other_arrives setting silent (length first.sent) frames frame j since receives in
    let at : slice_get s.sent (length first.sent + k) ≡ Some frame =
    ap (λ (fs : List SentFrame). slice_get fs (length first.sent + k)) later.sent ∙ get_behind first.sent later.new k ∙ ap (λ (fs : List SentFrame). slice_get fs k) (sym new) ∙ found in
    arrival_happens setting is s inv (others_take_since setting.group.size silent (length first.sent) s) (others_taking_cast_nothing setting silent (length first.sent) frames) none frame j (length first.sent + k) lt at step

-- ---- a round

-- The waves of a round: behind those of what is asked for and supplied help is asked for, the help frames arrive and are answered, and
-- what is handed on arrives.
pub record HelpWaves (silent : ℕ) (setting : Setting) (s t : GroupState) : Type 0 where
  pub supplied : GroupState
  pub asked : GroupState
  pub answered : GroupState
  pub waves : Waves (Lives silent) setting s supplied
  pub asks : (j i : ℕ) → j < setting.group.size → i < setting.group.size → Lives silent j → i ≢ j → Asks setting supplied asked j i
  pub helped : (frame : SentFrame) (j : ℕ) → IsSentSince supplied asked frame → IsIn j (receivers setting.group.size frame.from frame.to) → j < setting.group.size → Lives silent j → Takes setting asked answered frame j
  pub taken : (frame : SentFrame) (j : ℕ) → IsSentSince asked answered frame → IsIn j (receivers setting.group.size frame.from frame.to) → j < setting.group.size → Lives silent j → Takes setting answered t frame j
  pub to_supplied : IsLater s supplied
  pub to_asked : IsLater supplied asked
  pub to_answered : IsLater asked answered
  pub to_end : IsLater answered t

-- the states between the waves
unfoldable pub others_ticked : Setting → ℕ → GroupState → GroupState
others_ticked setting silent s = run_from setting s (others_tick setting.group.size silent)

unfoldable pub others_answered : Setting → ℕ → GroupState → GroupState
others_answered setting silent s = run_from setting (others_ticked setting silent s) (others_take_since setting.group.size silent (length s.sent) (others_ticked setting silent s))

unfoldable pub others_supplied : Setting → ℕ → GroupState → GroupState
others_supplied setting silent s = run_from setting (others_answered setting silent s) (others_take_since setting.group.size silent (length (others_ticked setting silent s).sent) (others_answered setting silent s))

unfoldable pub help_asked : Setting → ℕ → GroupState → GroupState
help_asked setting silent s = run_from setting (others_supplied setting silent s) (others_ask setting.group.size silent)

unfoldable pub help_answered : Setting → ℕ → GroupState → GroupState
help_answered setting silent s = run_from setting (help_asked setting silent s) (others_take_since setting.group.size silent (length (others_supplied setting silent s).sent) (help_asked setting silent s))

module _ (setting : Setting) (silent : ℕ) (s : GroupState) where
  abbrev pub first_arrivals : Schedule
  first_arrivals = others_take_since setting.group.size silent (length s.sent) (others_ticked setting silent s)

  abbrev pub supplies : Schedule
  supplies = others_take_since setting.group.size silent (length (others_ticked setting silent s).sent) (others_answered setting silent s)

  abbrev pub help_arrivals : Schedule
  help_arrivals = others_take_since setting.group.size silent (length (others_supplied setting silent s).sent) (help_asked setting silent s)

  abbrev pub handed_arrivals : Schedule
  handed_arrivals = others_take_since setting.group.size silent (length (help_asked setting silent s).sent) (help_answered setting silent s)

  abbrev pub from_help : Schedule
  from_help = others_ask setting.group.size silent ++ (help_arrivals ++ handed_arrivals)

  -- the steps, wave by wave
  abbrev pub all_waves : Schedule
  all_waves = others_tick setting.group.size silent ++ (first_arrivals ++ (supplies ++ from_help))

  pub round_is_its_waves : help_round setting silent s ≡ all_waves
  unfolding help_round_by in_waves others_ticked others_answered others_supplied help_asked help_answered
  round_is_its_waves =
      ap (λ (last : Schedule). others_tick setting.group.size silent ++ (first_arrivals ++ (supplies ++ (others_ask setting.group.size silent ++ (help_arrivals ++ last))))) (append-nil handed_arrivals)

  -- where the round ends
  pub help_round_ends : run_from setting s (help_round setting silent s) ≡ run_from setting (help_answered setting silent s) handed_arrivals
  unfolding others_ticked others_answered others_supplied help_asked help_answered
  help_round_ends =
      ap (run_from setting s) round_is_its_waves
      ∙ runs_join_from setting s (others_tick setting.group.size silent) (first_arrivals ++ (supplies ++ from_help))
      ∙ runs_join_from setting (others_ticked setting silent s) first_arrivals (supplies ++ from_help)
      ∙ runs_join_from setting (others_answered setting silent s) supplies from_help
      ∙ runs_join_from setting (others_supplied setting silent s) (others_ask setting.group.size silent) (help_arrivals ++ handed_arrivals)
      ∙ runs_join_from setting (help_asked setting silent s) help_arrivals handed_arrivals

  pub help_waves_of : IsSetting setting → IsConsistent setting s → FindNoneFullFrom setting s (help_round setting silent s) → HelpWaves silent setting s (run_from setting s (help_round setting silent s))
  unfolding others_ticked others_answered others_supplied help_asked help_answered
  help_waves_of is inv not_full =
      let none = subst (FindNoneFullFrom setting s) round_is_its_waves not_full in
      let ticked = others_ticked setting silent s in
      let answered = others_answered setting silent s in
      let supplied = others_supplied setting silent s in
      let asked = help_asked setting silent s in
      let helped = help_answered setting silent s in
      let a = none_full_splits setting s (others_tick setting.group.size silent) (first_arrivals ++ (supplies ++ from_help)) none in
      let b = none_full_splits setting ticked first_arrivals (supplies ++ from_help) a.1 in
      let c = none_full_splits setting answered supplies from_help b.1 in
      let d = none_full_splits setting supplied (others_ask setting.group.size silent) (help_arrivals ++ handed_arrivals) c.1 in
      let e = none_full_splits setting asked help_arrivals handed_arrivals d.1 in
      let inv_ticked = consistent_from setting is s inv (others_tick setting.group.size silent) in
      let inv_answered = consistent_from setting is ticked inv_ticked first_arrivals in
      let inv_supplied = consistent_from setting is answered inv_answered supplies in
      let inv_asked = consistent_from setting is supplied inv_supplied (others_ask setting.group.size silent) in
      let inv_helped = consistent_from setting is asked inv_asked help_arrivals in
      let quiet : (count : ℕ) (now : GroupState) → AllByRecursion IsNoCastStep (others_take_since setting.group.size silent count now) = λ count now. others_taking_cast_nothing setting silent count (drop count now.sent) in
      let to_ticked = run_is_later setting s (others_tick setting.group.size silent) (others_ticking_cast_nothing setting silent) in
      let to_answered = run_is_later setting ticked first_arrivals (quiet (length s.sent) ticked) in
      let to_supplied = run_is_later setting answered supplies (quiet (length ticked.sent) answered) in
      let to_asked = run_is_later setting supplied (others_ask setting.group.size silent) (others_asking_cast_nothing setting silent) in
      let to_helped = run_is_later setting asked help_arrivals (quiet (length supplied.sent) asked) in
      subst (HelpWaves silent setting s) (sym help_round_ends) (record {
        supplied = supplied;
        asked = asked;
        answered = helped;
        waves = record {
          asking = ticked;
          answered = answered;
          ticks = λ j lt live. tick_happens setting is s inv (others_tick setting.group.size silent) (others_ticking_cast_nothing setting silent) a.0 j lt
              (in_map TickStep (all_but setting.group.size silent) j (other_is_in setting.group.size silent j lt live));
          asked = other_takes setting is silent s ticked inv_ticked to_ticked b.0;
          taken = other_takes setting is silent ticked answered inv_answered to_answered c.0;
          to_asking = to_ticked;
          to_answered = to_answered;
          to_end = to_supplied;
          end_consistent = inv_supplied;
        };
        asks = each_asks setting is silent supplied inv_supplied d.0;
        helped = other_takes setting is silent supplied asked inv_asked to_asked e.0;
        taken = other_takes setting is silent asked helped inv_helped to_helped e.1;
        to_supplied = later_joins s ticked supplied to_ticked (later_joins ticked answered supplied to_answered to_supplied);
        to_asked = to_asked;
        to_answered = to_helped;
        to_end = run_is_later setting helped handed_arrivals (quiet (length asked.sent) helped);
      })
