-- Round after round among some members: what one of them had, all of them get, however many others are silent.
use Rattle.std.specs.Prelude.{slice_get}
use Rattle.std.specs.List.{AllByRecursion}
use Rattle.std.specs.Int.{div_ceil}
use Rattle.std.proofs.Common.{◌≡◌, ◌≢◌, ℕ, zero, suc, ◌+◌, ◌-◌, ◌*◌, ◌<◌, ◌≤◌, true, List, [], ◌∷◌, ◌++◌, map, Some, refl, sym, ap, subst, ◌∙◌, append-nil, append_assoc, arith, inl, inr}
use Rattle.std.proofs.lemmas.Bool.{cases_lt, cases_eq}
use Rattle.std.proofs.lemmas.List.{map-append}
use Rattle.std.proofs.lemmas.Option.{slice_get_within}
use Rattle.std.proofs.lemmas.Grind.{div_ceil_times}
use Rattle.cb_times.specs.declared.name.Name.{Name}
use Rattle.cb_frames.specs.declared.frame.TheConstants.{MOST_FRAMES}
use Rattle.cb_delay.specs.declared.message.Event.{Event}
use Rattle.cb_causality.specs.declared.event.CausalEvent.{CausalEvent}
use Rattle.cb_causality.specs.HappenedBefore.{HappenedBefore}
use Rattle.cb_causality.specs.StampedMachine.{without_time}
use Rattle.cb_causality.proofs.Counting.{get_left}
use Rattle.cb_causality.proofs.Extending.{stamped_extends_runs}
use Rattle.cb_causality.proofs.PastStands.{past_stands}
use Rattle.cb_causality.proofs.Runs.{run_regular}
use Rattle.cb_causality.proofs.Stamps.{stamped_is_causal}
use Rattle.cb_history.specs.Facts.{casts_in, is_there}
use Rattle.cb_history.specs.View.{view}
use Rattle.cb_history.specs.Answers.{delivered, own_casts}
use Rattle.cb_history.proofs.Times.{seen_is_there}
use Rattle.cb_history.proofs.Runs.{run_at_most, expanded_are_there, delivered_is_expanded}
use Rattle.cb_schedules.specs.Schedule.{Setting, IsSetting, seat_at, Schedule, GroupState, step_after, run_from, run}
use Rattle.cb_schedules.specs.Messages.{facts_at, stamped_lists, causal_lists, HasDelivered}
use Rattle.cb_schedules.specs.Honest.{member_of}
use Rattle.cb_schedules.specs.Consistent.{IsConsistent}
use Rattle.cb_schedules.specs.Rounds.{FindNoneFull}
use Rattle.cb_schedules.specs.RoundLaws.{IsNoCastStep, cast_count, expanded_at, rounds_to_deliver}
use Rattle.cb_schedules.specs.HelpRoundLaws.{member_of_step}
use Rattle.cb_schedules.specs.RoundsAmong.{is_given, round_among, rounds_among, GivenActAlone, RoundsAmongCastNothing, GivenHaveWhatAnyHad, RoundsAmongBringAll}
use Rattle.cb_schedules.proofs.GoingOn.{runs_join_from}
use Rattle.cb_schedules.proofs.Courses.{step_goes_on, consistent_from, runs_are_consistent}
use Rattle.cb_schedules.proofs.Lists.{all_both, all_weaken}
use Rattle.cb_schedules.proofs.Members.{stands_at, delivered_at_most}
use Rattle.cb_schedules.proofs.Moments.{own_cast_of, has_there, has_seen, seen_has}
use Rattle.cb_schedules.proofs.Closing.{seen_number, closed_is_seen}
use Rattle.cb_schedules.proofs.Knowing.{near_is_so}
use Rattle.cb_schedules.proofs.Later.{IsLater, later_itself, later_joins, delivered_later, expanded_later, run_is_later}
use Rattle.cb_schedules.proofs.Happening.{FindNoneFullFrom, none_full_from}
use Rattle.cb_schedules.proofs.Waves.{none_full_splits}
use Rattle.cb_schedules.proofs.Spreading.{AreRounds, all_brought}
use Rattle.cb_schedules.proofs.RoundsAmong.{Given, IsTheirs, RoundWaves, round_is_theirs, round_casts_nothing, round_waves, help_comes}

-- ---- what stood in a list at first

-- events go on
events_go_on : (setting : Setting) → IsSetting setting → (s : GroupState) → IsConsistent setting s → (steps : Schedule) → (k : ℕ)
    → (more : List Event) × (stamped_lists setting (run_from setting s steps) k ≡ stamped_lists setting s k ++ more)
unfolding run_from
events_go_on setting is s inv [] k = ([], sym (append-nil (stamped_lists setting s k)))
events_go_on setting is s inv (step ∷ steps) k =
    let next = step_after setting s step in
    let goes = step_goes_on setting is s inv step in
    let (first, is_first) = (stamped_extends_runs setting.group.size).beginning (stamped_lists setting s) (stamped_lists setting next) goes.1 k in
    let (rest, is_rest) = events_go_on setting is next goes.0 steps k in
    (first ++ rest, is_rest ∙ ap (λ (es : List Event). es ++ rest) is_first ∙ append_assoc (stamped_lists setting s k) first rest)

-- what happened before a message that a member had, it had too
past_was_had : (setting : Setting) → IsSetting setting → (s : GroupState) → IsConsistent setting s → (steps : Schedule) → (k : ℕ) (m earlier : Name)
    → HasDelivered setting s k m → HappenedBefore (causal_lists setting (run_from setting s steps)) earlier m → HasDelivered setting s k earlier
past_was_had setting is s inv steps k m earlier has before =
    let t = run_from setting s steps in
    let inv_t = consistent_from setting is s inv steps in
    let (more, goes_on) = events_go_on setting is s inv steps k in
    let then_on : causal_lists setting t k ≡ causal_lists setting s k ++ map without_time more = ap (map without_time) goes_on ∙ map-append without_time (stamped_lists setting s k) more in
    let within = slice_get_within (causal_lists setting s k) has.index has.event has.stands in
    let at : slice_get (causal_lists setting t k) has.index ≡ Some has.event =
    ap (λ (es : List CausalEvent). slice_get es has.index) then_on ∙ get_left (causal_lists setting s k) (map without_time more) has.index within ∙ has.stands in
    let (i, f, less, stands, called) = past_stands (causal_lists setting t) (run_regular setting.group.size (causal_lists setting t) (stamped_is_causal setting.group.size (stamped_lists setting t) inv_t.together.stamped)) k has.index has.event at earlier
    (subst (λ (x : Name). HappenedBefore (causal_lists setting t) earlier x) (sym has.named) before) in
    record {
      index = i;
      event = f;
      stands = sym (get_left (causal_lists setting s k) (map without_time more) i (omega (arith, less, within))) ∙ ap (λ (es : List CausalEvent). slice_get es i) (sym then_on) ∙ stands;
      named = called;
    }

-- ---- rounds

rounds_are_theirs : (setting : Setting) (list : List ℕ) (n : ℕ) (s : GroupState) → AllByRecursion (IsTheirs list) (rounds_among setting list n s)
unfolding rounds_among
rounds_are_theirs setting list zero s = tt
rounds_are_theirs setting list (suc n) s =
    all_both (IsTheirs list) (rounds_among setting list n s) (round_among setting list (run_from setting s (rounds_among setting list n s))) (rounds_are_theirs setting list n s)
    (round_is_theirs setting list (run_from setting s (rounds_among setting list n s)))

pub given_act_alone : GivenActAlone
given_act_alone setting list n s =
    all_weaken (IsTheirs list) (λ step. is_given list (member_of_step step) ≡ true) (rounds_among setting list n s) (λ step one. one.0) (rounds_are_theirs setting list n s)

pub rounds_cast_nothing : RoundsAmongCastNothing
rounds_cast_nothing setting list n s = all_weaken (IsTheirs list) IsNoCastStep (rounds_among setting list n s) (λ step one. one.1) (rounds_are_theirs setting list n s)

module _ (setting : Setting) (is : IsSetting setting) (list : List ℕ) (s : GroupState) (inv : IsConsistent setting s) where
  abbrev behind : ℕ → GroupState
  behind n = run_from setting s (rounds_among setting list n s)

  consistent_behind : (n : ℕ) → IsConsistent setting (behind n)
  consistent_behind n = consistent_from setting is s inv (rounds_among setting list n s)

  at_first : behind 0 ≡ s
  unfolding rounds_among run_from
  at_first = refl

  -- one round more
  next_round : (n : ℕ) → behind (suc n) ≡ run_from setting (behind n) (round_among setting list (behind n))
  unfolding rounds_among
  next_round n = runs_join_from setting s (rounds_among setting list n s) (round_among setting list (behind n))

  one_later : (n : ℕ) → IsLater (behind n) (behind (suc n))
  one_later n = subst (IsLater (behind n)) (sym (next_round n)) (run_is_later setting (behind n) (round_among setting list (behind n)) (round_casts_nothing setting list (behind n)))

  since_first : (n : ℕ) → IsLater (behind 0) (behind n)
  since_first zero = later_itself (behind 0)
  since_first (suc n) = later_joins (behind 0) (behind n) (behind (suc n)) (since_first n) (one_later n)

  module _ (count : ℕ) (none : FindNoneFullFrom setting s (rounds_among setting list count s)) where
    none_full_first : (n k : ℕ) → k ≤ n → FindNoneFullFrom setting s (rounds_among setting list n s) → FindNoneFullFrom setting s (rounds_among setting list k s)
    unfolding rounds_among
    none_full_first zero k le all = let e : 0 ≡ k = omega (arith, le) in subst (λ (m : ℕ). FindNoneFullFrom setting s (rounds_among setting list m s)) e all
    none_full_first (suc n) k le all = elim (cases_lt n k) [
      | inl last ↦ let e : suc n ≡ k = omega (arith, le, last) in subst (λ (m : ℕ). FindNoneFullFrom setting s (rounds_among setting list m s)) e all
      | inr before ↦ none_full_first n k before (none_full_splits setting s (rounds_among setting list n s) (round_among setting list (behind n)) all).0
    ]

    waves : (n : ℕ) → n < count → RoundWaves list setting (behind n) (behind (suc n))
    unfolding rounds_among
    waves n lt =
        let first = none_full_first count (suc n) (omega (arith, lt)) none in
        subst (RoundWaves list setting (behind n)) (sym (next_round n))
        (round_waves setting list (behind n) is (consistent_behind n) (none_full_splits setting s (rounds_among setting list n s) (round_among setting list (behind n)) first).1)

    rounds_are : AreRounds (Given list) setting behind count
    rounds_are = record {
      consistent = consistent_behind;
      later = one_later;
      round = λ k lt. let w = waves k lt in record { supplied = w.supplied; waves = w.waves; to_end = w.to_end };
    }

    -- Of what one of them had of another's messages all is expanded but the last, as many as the window is wider than so many answers.
    helped : (n m j k i : ℕ) → n ≤ count → j < setting.group.size → k < setting.group.size → i < setting.group.size → Given list j → Given list k → i ≢ j → k ≢ i
        → m ≤ delivered (seat_at setting k) (facts_at (behind 0) k) i → m + setting.group.window ≤ cast_count setting (behind 0) i + n * MOST_FRAMES → m ≤ expanded_at (behind n) j i
    helped zero m j k i le lt_j lt_k lt_i given_j given_k other third has near =
        let h = (consistent_behind 0).together in
        let close = near_is_so setting.group (facts_at (behind 0)) h i j lt_i lt_j in
        let low = (delivered_is_expanded (seat_at setting j) (facts_at (behind 0) j) (h.legal j lt_j)).0 i in
        omega (arith, near, close, low)
    helped (suc n) m j k i le lt_j lt_k lt_i given_j given_k other third has near =
        let begun : m ≤ expanded_at (behind n) j i + MOST_FRAMES = elim (cases_lt m MOST_FRAMES) [
          | inl few ↦ omega (arith, few)
          | inr many ↦
              let rest = helped n (m - MOST_FRAMES) j k i (omega (arith, le)) lt_j lt_k lt_i given_j given_k other third (omega (arith, has)) (omega (arith, near, many)) in
              omega (arith, rest, many)
        ] in
        let still = delivered_later (behind 0) (behind n) (since_first n) (seat_at setting k) k i in
        run_at_most (casts_in (facts_at (behind (suc n)) j)) i m (λ x low high.
        help_comes list setting (behind n) (behind (suc n)) (consistent_behind n) (waves n (omega (arith, le))) i j k x lt_i lt_j lt_k given_j given_k other third low (omega (arith, high, begun)) (omega (arith, high, has, still)))

  -- ---- one round, and as many more as it takes to ask for a whole window

  module _ (asking : ℕ) (wide : setting.group.window ≤ asking * MOST_FRAMES) (none : FindNoneFullFrom setting s (rounds_among setting list (suc asking) s)) where
    abbrev t : GroupState
    t = behind (suc asking)

    -- what one of them had is there with each of them
    had_is_there : (j k i n : ℕ) → j < setting.group.size → k < setting.group.size → i < setting.group.size → Given list j → Given list k → 1 ≤ n
        → n ≤ delivered (seat_at setting k) (facts_at (behind 0) k) i → is_there (casts_in (facts_at (behind (suc asking)) j)) i n ≡ true
    had_is_there j k i n lt_j lt_k lt_i given_j given_k low high =
        let cast = delivered_at_most setting.group (facts_at (behind 0)) (consistent_behind 0).together k i lt_k lt_i in
        let still = delivered_later (behind 0) t (since_first (suc asking)) (seat_at setting i) i i in
        elim (cases_eq i j) [
          | inl own ↦
              let made : n ≤ delivered (seat_at setting j) (facts_at t j) j = subst (λ (y : ℕ). n ≤ delivered (seat_at setting y) (facts_at t y) y) own (omega (arith, high, cast, still)) in
              subst (λ (y : ℕ). is_there (casts_in (facts_at t j)) y n ≡ true) (sym own)
              (seen_is_there (seat_at setting j) (casts_in (facts_at t j)) (view setting.group.size (facts_at t j)) (own_casts (facts_at t j)) j n (stands_at setting.group (facts_at t) (consistent_behind (suc asking)).together j lt_j) low made)
          | inr other ↦ elim (cases_eq k i) [
            | inl same ↦
                let all = all_brought (Given list) setting behind asking (rounds_are (suc asking) none) wide j i lt_j lt_i given_j (subst (Given list) same given_k) (λ e. other (sym e)) in
                expanded_are_there (casts_in (facts_at t j)) i n low (omega (arith, high, cast, all))
            | inr third ↦
                let all = helped (suc asking) none asking (delivered (seat_at setting k) (facts_at (behind 0) k) i) j k i (omega arith) lt_j lt_k lt_i given_j given_k other third (omega arith) (omega (arith, cast, wide)) in
                let more = expanded_later (behind asking) t (one_later asking) j i in
                expanded_are_there (casts_in (facts_at t j)) i n low (omega (arith, high, all, more))
          ]
        ]

    -- so each of them has delivered it
    had_by_all : GivenHaveWhatAnyHad setting list (behind 0) (behind (suc asking))
    had_by_all j k m lt_j lt_k given_j given_k has =
        let z = behind 0 in
        let h = (consistent_behind 0).together in
        let there : (x : Name) → HasDelivered setting (behind 0) k x → is_there (casts_in (facts_at (behind (suc asking)) j)) x.sender x.number ≡ true = λ x had.
        let number = seen_number setting.group (facts_at z) h k x lt_k (has_seen (member_of setting.group k) (facts_at z k) x had) in
        let c = own_cast_of setting.group (facts_at z) h k x (has_there setting.group (facts_at z) h k x had lt_k) in
        had_is_there j k x.sender x.number lt_j lt_k c.sender_member given_j given_k number.0 number.1 in
        seen_has (member_of setting.group j) (facts_at t j) m
        (closed_is_seen setting.group (facts_at t) (consistent_behind (suc asking)).together j m (record {
          here = there m has;
          past = λ earlier before.
              there earlier (subst (λ (y : GroupState). HasDelivered setting y k earlier) (sym at_first)
              (past_was_had setting is s inv (rounds_among setting list (suc asking) s) k m earlier (subst (λ (y : GroupState). HasDelivered setting y k m) at_first has) before));
        }))

    pub all_have_what_any_had : GivenHaveWhatAnyHad setting list s (run_from setting s (rounds_among setting list (suc asking) s))
    all_have_what_any_had = subst (λ (y : GroupState). GivenHaveWhatAnyHad setting list y t) at_first had_by_all

-- ---- behind every consistent state, and so behind every schedule

pub they_have_what_any_had : (setting : Setting) → IsSetting setting → (list : List ℕ) (s : GroupState) → IsConsistent setting s → FindNoneFull setting s (rounds_among setting list (rounds_to_deliver setting) s)
    → GivenHaveWhatAnyHad setting list s (run_from setting s (rounds_among setting list (rounds_to_deliver setting) s))
they_have_what_any_had setting is list s inv none =
    let asking = div_ceil setting.group.window MOST_FRAMES in
    let so_many : rounds_to_deliver setting ≡ suc asking = omega arith in
    subst (λ (n : ℕ). FindNoneFullFrom setting s (rounds_among setting list n s) → GivenHaveWhatAnyHad setting list s (run_from setting s (rounds_among setting list n s))) (sym so_many)
    (λ all. all_have_what_any_had setting is list s inv asking (div_ceil_times setting.group.window MOST_FRAMES (omega arith)).0 all)
    (none_full_from setting s (rounds_among setting list (rounds_to_deliver setting) s) none)

pub rounds_among_bring_all : RoundsAmongBringAll
rounds_among_bring_all setting list steps is none = they_have_what_any_had setting is list (run setting steps) (runs_are_consistent setting steps is) none
