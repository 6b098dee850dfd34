-- A round among some members as its waves, and what each hands on there.
use Rattle.std.proofs.Common.{◌≡◌, ◌≢◌, ℕ, ◌+◌, ◌<◌, ◌≤◌, ◌&&◌, Bool, true, false, not, eqb, leb, suc, List, [], ◌∷◌, ◌++◌, length, drop, take, map, Some, refl, sym, ap, subst, ◌∙◌, arith, inl, inr}
use Rattle.std.specs.Prelude.{slice_get, bytes_eq}
use Rattle.std.specs.List.{AllByRecursion, filter, flat_map, range_with_len}
use Rattle.std.proofs.lemmas.Bool.{cases_lt, cases_eq, eq-eqb, ne_eqb, le-leb, and_from}
use Rattle.std.proofs.lemmas.Slice.Eq.{bytes_eq-Decides}
use Rattle.std.proofs.Math.Seq.{drop-append_seam}
use Rattle.cb_frames.specs.declared.frame.TheConstants.{MOST_RANGES, MOST_FRAMES}
use Rattle.cb_frames.specs.declared.frame.Range.{Range}
use Rattle.cb_frames.specs.Fields.{CastFields, CastFrame, HelpFrame, last_number}
use Rattle.cb_frames.specs.Text.{text_of, AreRanges}
use Rattle.cb_frames.proofs.Carried.{carried_is_of_cast}
use Rattle.cb_history.specs.declared.answer.Outgoing.{Outgoing}
use Rattle.cb_history.specs.Facts.{casts_in, is_there}
use Rattle.cb_history.specs.View.{view}
use Rattle.cb_history.specs.Known.{known, missing, ranges_of, acknowledged_of}
use Rattle.cb_history.specs.Helping.{handed_on}
use Rattle.cb_history.specs.Answers.{delivered, own_casts, is_asked_for, sent_in_answer}
use Rattle.cb_history.proofs.Views.{IsIn, in_filter, filter_in}
use Rattle.cb_history.proofs.Lists.{in_front, in_back}
use Rattle.cb_history.proofs.Keeping.{in_range}
use Rattle.cb_history.proofs.Times.{seen_is_there}
use Rattle.cb_history.proofs.GapsLater.{lacking_is_above}
use Rattle.cb_history.proofs.Buffers.{cast_of_is_in, in_is_cast_of}
use Rattle.cb_history.proofs.Agreement.{all_at}
use Rattle.cb_schedules.specs.Schedule.{Setting, IsSetting, seat_at, Step, ArriveStep, TickStep, Schedule, SentFrame, GroupState, run_from}
use Rattle.cb_schedules.specs.Messages.{facts_at, sent_casts}
use Rattle.cb_schedules.specs.Honest.{IsHonest}
use Rattle.cb_schedules.specs.Consistent.{IsConsistent}
use Rattle.cb_schedules.specs.Rounds.{receivers}
use Rattle.cb_schedules.specs.RoundLaws.{IsNoCastStep, expanded_at}
use Rattle.cb_schedules.specs.HelpRounds.{all_but}
use Rattle.cb_schedules.specs.HelpRoundLaws.{member_of_step}
use Rattle.cb_schedules.specs.RoundsAmong.{is_given, given_members, given_tick, given_receivers, given_take, given_take_since, helpers_among, asks_for_help, handed_by, number_of, takes_again, given_help, given_ticked, given_answered, given_supplied, round_among}
use Rattle.cb_schedules.proofs.GoingOn.{runs_join_from}
use Rattle.cb_schedules.proofs.Courses.{consistent_from}
use Rattle.cb_schedules.proofs.Lists.{in_map, in_flat, all_both, all_map, all_flat, all_weaken}
use Rattle.cb_schedules.proofs.Members.{stands_at, delivered_at_most}
use Rattle.cb_schedules.proofs.Sending.{sent_frame, honest_text}
use Rattle.cb_schedules.proofs.Knowing.{near_is_so}
use Rattle.cb_schedules.proofs.Lacking.{lacked_is_handed_on, handed_on_rise}
use Rattle.cb_schedules.proofs.Later.{IsLater, later_joins, delivered_later, there_later, expanded_later, run_is_later}
use Rattle.cb_schedules.proofs.Happening.{FindNoneFullFrom, IsSentSince, get_behind, ticks_cast_nothing}
use Rattle.cb_schedules.proofs.Covering.{is_in_some, first_ranges_cover, taken_ranges_are, above_least, missing_ranges_are, missing_is_in_some, Rising, filtered_rises, first_frames_cover, asked_for_is, is_asked}
use Rattle.cb_schedules.proofs.Waves.{Takes, tick_happens, arrival_happens, none_full_splits, Waves}
use Rattle.cb_schedules.proofs.Asking.{own_cast_comes, status_comes}
use Rattle.cb_schedules.proofs.HelpWaves.{other_is_in}

-- those who are given live
abbrev pub Given : List ℕ → ℕ → Type 0
Given list j = is_given list j ≡ true

given_is_in : (size : ℕ) (list : List ℕ) (k : ℕ) → k < size → Given list k → IsIn k (given_members size list)
given_is_in size list k lt given = in_filter (is_given list) (range_with_len 0 size) k given (in_range 0 size k (omega arith) (omega (arith, lt)))

-- ---- the steps are theirs

-- one of them acts, and casts nothing
abbrev pub IsTheirs : List ℕ → Step → Type 0
IsTheirs list step = Given list (member_of_step step) × IsNoCastStep step

ticks_are_theirs : (size : ℕ) (list : List ℕ) → AllByRecursion (IsTheirs list) (given_tick size list)
ticks_are_theirs size list = all_map (IsTheirs list) TickStep (given_members size list) (λ j there. ((filter_in (is_given list) (range_with_len 0 size) j there).0, tt))

takes_are_theirs : (size : ℕ) (list : List ℕ) (number : ℕ) (frames : List SentFrame) → AllByRecursion (IsTheirs list) (given_take size list number frames)
takes_are_theirs size list number [] = tt
takes_are_theirs size list number (frame ∷ frames) =
    all_both (IsTheirs list) (map (λ j. ArriveStep j number) (given_receivers size list frame)) (given_take size list (number + 1) frames)
    (all_map (IsTheirs list) (λ j. ArriveStep j number) (given_receivers size list frame) (λ j there. ((filter_in (is_given list) (receivers size frame.from frame.to) j there).0, tt)))
    (takes_are_theirs size list (number + 1) frames)

module _ (setting : Setting) (list : List ℕ) (s : GroupState) where
  -- what arrives at member j of what it lacks of sender i
  abbrev pub help_of : ℕ → ℕ → Schedule
  help_of j i = takes_again j s.sent (handed_by setting list s j i (ranges_of (missing (seat_at setting j) (facts_at s j) i)))

  help_is_theirs : AllByRecursion (IsTheirs list) (given_help setting list s)
  help_is_theirs =
      all_flat (IsTheirs list) (λ j. flat_map (help_of j) (all_but setting.group.size j)) (given_members setting.group.size list) (λ j there.
      all_flat (IsTheirs list) (help_of j) (all_but setting.group.size j) (λ i at.
      all_flat (IsTheirs list) (λ out. map (ArriveStep j) (number_of out.bytes 0 s.sent)) (handed_by setting list s j i (ranges_of (missing (seat_at setting j) (facts_at s j) i))) (λ out here.
      all_map (IsTheirs list) (ArriveStep j) (number_of out.bytes 0 s.sent) (λ n found. ((filter_in (is_given list) (range_with_len 0 setting.group.size) j there).0, tt)))))

cast_nothing : (list : List ℕ) (steps : Schedule) → AllByRecursion (IsTheirs list) steps → AllByRecursion IsNoCastStep steps
cast_nothing list steps all = all_weaken (IsTheirs list) IsNoCastStep steps (λ step one. one.1) all

taking_casts_nothing : (size : ℕ) (list : List ℕ) (number : ℕ) (frames : List SentFrame) → AllByRecursion IsNoCastStep (given_take size list number frames)
taking_casts_nothing size list number frames = cast_nothing list (given_take size list number frames) (takes_are_theirs size list number frames)

helping_casts_nothing : (setting : Setting) (list : List ℕ) (s : GroupState) → AllByRecursion IsNoCastStep (given_help setting list s)
helping_casts_nothing setting list s = cast_nothing list (given_help setting list s) (help_is_theirs setting list s)

-- ---- an arrival

-- a frame among these arrives at each of the given members that it was sent to
given_arrives : (size : ℕ) (list : List ℕ) (number : ℕ) (frames : List SentFrame) (frame : SentFrame) (j : ℕ) → IsIn frame frames → IsIn j (given_receivers size list frame)
    → (k : ℕ) × (slice_get frames k ≡ Some frame) × IsIn (ArriveStep j (number + k)) (given_take size list number frames)
given_arrives size list number [] frame j there to = absurd there
given_arrives size list number (first ∷ frames) frame j (inl same) to =
    let here = in_map (λ j. ArriveStep j number) (given_receivers size list first) j (subst (λ (f : SentFrame). IsIn j (given_receivers size list f)) same to) in
    let e : number ≡ number + 0 = omega arith in (
      0,
      ap Some (sym same),
      subst (λ (n : ℕ). IsIn (ArriveStep j n) (given_take size list number (first ∷ frames))) e
          (in_front (ArriveStep j number) (map (λ j. ArriveStep j number) (given_receivers size list first)) (given_take size list (number + 1) frames) here),
    )
given_arrives size list number (first ∷ frames) frame j (inr later) to =
    let (k, at, step) = given_arrives size list (number + 1) frames frame j later to in
    let e : number + 1 + k ≡ number + suc k = omega arith in (
      suc k,
      at,
      subst (λ (n : ℕ). IsIn (ArriveStep j n) (given_take size list number (first ∷ frames))) e
          (in_back (ArriveStep j (number + 1 + k)) (map (λ j. ArriveStep j number) (given_receivers size list first)) (given_take size list (number + 1) frames) step),
    )

-- what was sent between two states arrives at each of the given members that it was sent to in the wave behind the second one
given_takes : (setting : Setting) → IsSetting setting → (list : List ℕ) (first s : GroupState) → IsConsistent setting s → IsLater first s → FindNoneFullFrom setting s (given_take_since setting.group.size list (length first.sent) s)
    → (frame : SentFrame) (j : ℕ) → IsSentSince first s frame → IsIn j (receivers setting.group.size frame.from frame.to) → j < setting.group.size → Given list j
    → Takes setting s (run_from setting s (given_take_since setting.group.size list (length first.sent) s)) frame j
given_takes setting is list first s inv later none frame j since to lt given =
    let frames = drop (length first.sent) s.sent in
    let new : frames ≡ later.new = ap (drop (length first.sent)) later.sent ∙ drop-append_seam first.sent later.new in
    let receives = in_filter (is_given list) (receivers setting.group.size frame.from frame.to) j given to in
    let (k, found, step) = given_arrives setting.group.size list (length first.sent) frames frame j since receives in
    let at : slice_get s.sent (length first.sent + k) ≡ Some frame =
    ap (λ (fs : List SentFrame). slice_get fs (length first.sent + k)) later.sent ∙ get_behind first.sent later.new k ∙ ap (λ (fs : List SentFrame). slice_get fs k) (sym new) ∙ found in
    arrival_happens setting is s inv (given_take_since setting.group.size list (length first.sent) s) (taking_casts_nothing setting.group.size list (length first.sent) frames) none frame j (length first.sent + k) lt at step

-- ---- a frame that was sent before

-- the one with these bytes that was sent first
record IsSentAgain (bytes : List ℕ) (number : ℕ) (frames : List SentFrame) : Type 0 where
  place : ℕ
  again : SentFrame
  at : slice_get frames place ≡ Some again
  same : again.bytes ≡ bytes
  numbered : IsIn (number + place) (number_of bytes number frames)

found_again : (bytes : List ℕ) (number : ℕ) (frames : List SentFrame) (frame : SentFrame) → IsIn frame frames → bytes ≡ frame.bytes → IsSentAgain bytes number frames
found_again bytes number [] frame there is = absurd there
found_again bytes number (first ∷ frames) frame there is = by_first (bytes_eq bytes first.bytes) refl there (λ later. found_again bytes (number + 1) frames frame later is)
  where
    by_first : (b : Bool) → bytes_eq bytes first.bytes ≡ b → IsIn frame (first ∷ frames) → (IsIn frame frames → IsSentAgain bytes (number + 1) frames) → IsSentAgain bytes number (first ∷ frames)
    by_first true alike there rest = record {
      place = 0;
      again = first;
      at = refl;
      same = sym ((bytes_eq-Decides bytes first.bytes).0 alike);
      numbered = let e : number ≡ number + 0 = omega arith in subst (λ (n : ℕ). IsIn n (number_of bytes number (first ∷ frames))) e (rw alike (inl refl));
    }
    by_first false unlike (inl same) rest = let alike = (bytes_eq-Decides bytes first.bytes).1 (is ∙ ap (λ (f : SentFrame). f.bytes) same) in absurd cc
    by_first false unlike (inr later) rest =
        let found = rest later in
        let e : number + 1 + found.place ≡ number + suc found.place = omega arith in
        record {
          place = suc found.place;
          again = found.again;
          at = found.at;
          same = found.same;
          numbered = rw unlike (subst (λ (n : ℕ). IsIn n (number_of bytes (number + 1) frames)) e found.numbered);
        }

-- what is handed on to member j arrives there
pub record Hands (setting : Setting) (s t : GroupState) (j : ℕ) (bytes : List ℕ) : Type 0 where
  pub again : SentFrame
  pub same : again.bytes ≡ bytes
  pub takes : Takes setting s t again j

it_is_handed : (setting : Setting) → IsSetting setting → (list : List ℕ) (s : GroupState) → IsConsistent setting s → FindNoneFullFrom setting s (given_help setting list s)
    → (j i : ℕ) (out : Outgoing) (frame : SentFrame) → j < setting.group.size → i < setting.group.size → Given list j → i ≢ j
    → IsIn out (handed_by setting list s j i (ranges_of (missing (seat_at setting j) (facts_at s j) i))) → IsIn frame s.sent → out.bytes ≡ frame.bytes
    → Hands setting s (run_from setting s (given_help setting list s)) j out.bytes
it_is_handed setting is list s inv none j i out frame lt_j lt_i given ne there sent bytes =
    let found = found_again out.bytes 0 s.sent frame sent bytes in
    let e : 0 + found.place ≡ found.place = omega arith in
    let numbered = subst (λ (n : ℕ). IsIn n (number_of out.bytes 0 s.sent)) e found.numbered in
    let outs = handed_by setting list s j i (ranges_of (missing (seat_at setting j) (facts_at s j) i)) in
    let here : IsIn (ArriveStep j found.place) (help_of setting list s j i) =
    in_flat (λ out. map (ArriveStep j) (number_of out.bytes 0 s.sent)) outs out (ArriveStep j found.place) there (in_map (ArriveStep j) (number_of out.bytes 0 s.sent) found.place numbered) in
    let of_j : IsIn (ArriveStep j found.place) (flat_map (help_of setting list s j) (all_but setting.group.size j)) =
    in_flat (help_of setting list s j) (all_but setting.group.size j) i (ArriveStep j found.place) (other_is_in setting.group.size j i lt_i ne) here in
    let step : IsIn (ArriveStep j found.place) (given_help setting list s) =
    in_flat (λ j. flat_map (help_of setting list s j) (all_but setting.group.size j)) (given_members setting.group.size list) j (ArriveStep j found.place) (given_is_in setting.group.size list j lt_j given) of_j in
    record {
      again = found.again;
      same = found.same;
      takes = arrival_happens setting is s inv (given_help setting list s) (helping_casts_nothing setting list s) none found.again j found.place lt_j found.at step;
    }

-- ---- a round

-- The waves of a round: behind those of what is asked for and supplied what is handed on arrives.
pub record RoundWaves (list : List ℕ) (setting : Setting) (s t : GroupState) : Type 0 where
  pub supplied : GroupState
  pub consistent : IsConsistent setting supplied
  pub waves : Waves (Given list) setting s supplied
  pub to_supplied : IsLater s supplied
  pub to_end : IsLater supplied t
  pub hands : (j i : ℕ) (out : Outgoing) (frame : SentFrame) → j < setting.group.size → i < setting.group.size → Given list j → i ≢ j
      → IsIn out (handed_by setting list supplied j i (ranges_of (missing (seat_at setting j) (facts_at supplied j) i))) → IsIn frame supplied.sent → out.bytes ≡ frame.bytes
      → Hands setting supplied t j out.bytes

module _ (setting : Setting) (list : List ℕ) (s : GroupState) where
  abbrev pub first_arrivals : Schedule
  first_arrivals = given_take_since setting.group.size list (length s.sent) (given_ticked setting list s)

  abbrev pub supplies : Schedule
  supplies = given_take_since setting.group.size list (length (given_ticked setting list s).sent) (given_answered setting list s)

  abbrev pub helps : Schedule
  helps = given_help setting list (given_supplied setting list s)

  pub round_is_theirs : AllByRecursion (IsTheirs list) (round_among setting list s)
  unfolding round_among
  round_is_theirs =
      all_both (IsTheirs list) (given_tick setting.group.size list) (first_arrivals ++ (supplies ++ helps)) (ticks_are_theirs setting.group.size list)
      (all_both (IsTheirs list) first_arrivals (supplies ++ helps) (takes_are_theirs setting.group.size list (length s.sent) (drop (length s.sent) (given_ticked setting list s).sent))
      (all_both (IsTheirs list) supplies helps (takes_are_theirs setting.group.size list (length (given_ticked setting list s).sent) (drop (length (given_ticked setting list s).sent) (given_answered setting list s).sent))
      (help_is_theirs setting list (given_supplied setting list s))))

  pub round_casts_nothing : AllByRecursion IsNoCastStep (round_among setting list s)
  round_casts_nothing = cast_nothing list (round_among setting list s) round_is_theirs

  -- where the round ends
  round_ends : run_from setting s (round_among setting list s) ≡ run_from setting (given_supplied setting list s) helps
  unfolding round_among given_ticked given_answered given_supplied
  round_ends =
      runs_join_from setting s (given_tick setting.group.size list) (first_arrivals ++ (supplies ++ helps))
      ∙ runs_join_from setting (given_ticked setting list s) first_arrivals (supplies ++ helps)
      ∙ runs_join_from setting (given_answered setting list s) supplies helps

  pub round_waves : IsSetting setting → IsConsistent setting s → FindNoneFullFrom setting s (round_among setting list s) → RoundWaves list setting s (run_from setting s (round_among setting list s))
  unfolding round_among given_ticked given_answered given_supplied
  round_waves is inv none =
      let ticked = given_ticked setting list s in
      let answered = given_answered setting list s in
      let supplied = given_supplied setting list s in
      let a = none_full_splits setting s (given_tick setting.group.size list) (first_arrivals ++ (supplies ++ helps)) none in
      let b = none_full_splits setting ticked first_arrivals (supplies ++ helps) a.1 in
      let c = none_full_splits setting answered supplies helps b.1 in
      let inv_ticked = consistent_from setting is s inv (given_tick setting.group.size list) in
      let inv_answered = consistent_from setting is ticked inv_ticked first_arrivals in
      let inv_supplied = consistent_from setting is answered inv_answered supplies in
      let to_ticked = run_is_later setting s (given_tick setting.group.size list) (ticks_cast_nothing (given_members setting.group.size list)) in
      let to_answered = run_is_later setting ticked first_arrivals (taking_casts_nothing setting.group.size list (length s.sent) (drop (length s.sent) ticked.sent)) in
      let to_supplied = run_is_later setting answered supplies (taking_casts_nothing setting.group.size list (length ticked.sent) (drop (length ticked.sent) answered.sent)) in
      subst (RoundWaves list setting s) (sym round_ends) (record {
        supplied = supplied;
        consistent = inv_supplied;
        waves = record {
          asking = ticked;
          answered = answered;
          ticks = λ j lt given. tick_happens setting is s inv (given_tick setting.group.size list) (ticks_cast_nothing (given_members setting.group.size list)) a.0 j lt
              (in_map TickStep (given_members setting.group.size list) j (given_is_in setting.group.size list j lt given));
          asked = λ frame j since to lt given. given_takes setting is list s ticked inv_ticked to_ticked b.0 frame j since to lt given;
          taken = λ frame j since to lt given. given_takes setting is list ticked answered inv_answered to_answered c.0 frame j since to lt given;
          to_asking = to_ticked;
          to_answered = to_answered;
          to_end = to_supplied;
          end_consistent = inv_supplied;
        };
        to_supplied = later_joins s ticked supplied to_ticked (later_joins ticked answered supplied to_answered to_supplied);
        to_end = run_is_later setting supplied helps (helping_casts_nothing setting list supplied);
        hands = λ j i out frame lt_j lt_i given ne there sent bytes. it_is_handed setting is list supplied inv_supplied c.1 j i out frame lt_j lt_i given ne there sent bytes;
      })

-- ---- what is handed on

-- rising ranges that name a number begin at it or below
first_below : (least n : ℕ) (r : Range) (ranges : List Range) → AreRanges least (r ∷ ranges) → is_in_some (r ∷ ranges) n ≡ true → r.first ≤ n
first_below least n r ranges are some = above_least r.first n (r ∷ ranges) (omega arith, are.1, are.2, are.3) some

module _ (list : List ℕ) (setting : Setting) (s t : GroupState) (inv : IsConsistent setting s) (w : RoundWaves list setting s t) where
  pub round_is_later : IsLater s t
  round_is_later = later_joins s w.supplied t w.to_supplied w.to_end

  -- message n of member i, which member k had delivered and member j may ask for
  module _ (i j k n : ℕ) (lt_i : i < setting.group.size) (lt_j : j < setting.group.size) (lt_k : k < setting.group.size) (given_j : Given list j) (given_k : Given list k)
      (other : i ≢ j) (third : k ≢ i) (low : 1 ≤ n) (near : n ≤ expanded_at s j i + MOST_FRAMES) (has : n ≤ delivered (seat_at setting k) (facts_at s k) i) where
    abbrev u : GroupState
    u = w.supplied

    abbrev begin : ℕ
    begin = expanded_at u j i

    abbrev asked_ranges : List Range
    asked_ranges = ranges_of (missing (seat_at setting j) (facts_at u j) i)

    abbrev Comes : Type 0
    Comes = is_there (casts_in (facts_at t j)) i n ≡ true

    delivered_comes : (now : GroupState) → IsConsistent setting now → IsLater now t → n ≤ delivered (seat_at setting j) (facts_at now j) i → Comes
    delivered_comes now inv_now to_end high =
        there_later now t to_end j i n
        (seen_is_there (seat_at setting j) (casts_in (facts_at now j)) (view setting.group.size (facts_at now j)) (own_casts (facts_at now j)) i n (stands_at setting.group (facts_at now) inv_now.together j lt_j) low high)

    has_then : n ≤ delivered (seat_at setting k) (facts_at w.supplied k) i
    has_then = let still = delivered_later s w.supplied w.to_supplied (seat_at setting k) k i in omega (arith, has, still)

    -- the ranges that it asks for
    module _ (r : Range) (ranges : List Range) (are : ranges_of (missing (seat_at setting j) (facts_at w.supplied j) i) ≡ r ∷ ranges)
        (rise : AreRanges (expanded_at w.supplied j i + 1) (r ∷ ranges)) (names : is_in_some (r ∷ ranges) n ≡ true) (new : j ≢ k) (lacks : delivered (seat_at setting j) (facts_at w.supplied j) i < n)
        (knows : n ≤ acknowledged_of (seat_at setting j) (facts_at w.supplied j) k i) where
      abbrev first : List Range
      first = take MOST_RANGES (r ∷ ranges)

      abbrev asked_casts : List CastFields
      asked_casts = filter (is_asked_for first) (handed_on (seat_at setting k) (facts_at u k) i)

      near_then : n ≤ expanded_at w.supplied j i + MOST_FRAMES
      near_then = let more = expanded_later s w.supplied w.to_supplied j i in omega (arith, near, more)

      named_first : is_in_some first n ≡ true
      named_first = first_ranges_cover MOST_RANGES begin n (r ∷ ranges) rise names (omega (arith, near_then))

      they_rise : Rising (0 + 1) asked_casts
      they_rise =
          let stands = stands_at setting.group (facts_at u) w.consistent.together k lt_k in
          filtered_rises (is_asked_for first) (0 + 1) (handed_on (seat_at setting k) (facts_at u k) i) (handed_on_rise (seat_at setting k) (facts_at u k) i stands.some stands.names)

      they_end : (c : CastFields) → IsIn c asked_casts → begin + 1 ≤ last_number c
      they_end c there =
          let (m, in_c, asked) = asked_for_is first c (filter_in (is_asked_for first) (handed_on (seat_at setting k) (facts_at u k) i) c there).0 in
          let least = above_least (begin + 1) m.number first (taken_ranges_are MOST_RANGES (begin + 1) (r ∷ ranges) rise) asked in
          let high = (carried_is_of_cast c m in_c).high in
          omega (arith, least, high)

      k_is_asked : IsIn k (helpers_among (seat_at setting j) (facts_at w.supplied j) list i r.first)
      k_is_asked =
          let below = first_below (begin + 1) n r ranges rise names in
          in_filter (λ k. not (eqb k i) && not (eqb k j) && leb r.first (acknowledged_of (seat_at setting j) (facts_at u j) k i)) (given_members setting.group.size list) k
          (and_from (not (eqb k i) && not (eqb k j)) (leb r.first (acknowledged_of (seat_at setting j) (facts_at u j) k i))
          (and_from (not (eqb k i)) (not (eqb k j)) (rw (ne_eqb k i third) refl) (rw (ne_eqb k j (λ e. new (sym e))) refl)) (le-leb r.first (acknowledged_of (seat_at setting j) (facts_at u j) k i) (omega (arith, below, knows))))
          (given_is_in setting.group.size list k lt_k given_k)

      help_brings : Comes
      help_brings =
          let (c, handed) = lacked_is_handed_on setting u w.consistent i j k n lt_i lt_j lt_k third has_then lacks in
          let c_first = c.low in
          let asked = is_asked first c.cast c.found c.has (subst (λ (m : ℕ). is_in_some first m ≡ true) (sym c.number_is) named_first) in
          let least = above_least (begin + 1) n (r ∷ ranges) rise names in
          let among = first_frames_cover MOST_FRAMES (0 + 1) (begin + 1) n asked_casts c.cast they_rise they_end
          (in_filter (is_asked_for first) (handed_on (seat_at setting k) (facts_at u k) i) c.cast asked handed) c_first least (omega (arith, near_then)) in
          let out : Outgoing = record { to = Some j; bytes = text_of (CastFrame c.cast) } in
          let all : sent_in_answer (seat_at setting k) (facts_at u k) (HelpFrame (asks_for_help setting j i (r ∷ ranges) k)) ≡ map (λ c. record { to = Some j; bytes = text_of (CastFrame c) }) (take MOST_FRAMES asked_casts) = rw (eq-eqb k k refl) refl in
          let there = in_map (λ c. record { to = Some j; bytes = text_of (CastFrame c) }) (take MOST_FRAMES asked_casts) c.cast among in
          let by_k : IsIn out (handed_by setting list u j i (r ∷ ranges)) =
          in_flat (λ l. sent_in_answer (seat_at setting l) (facts_at u l) (HelpFrame (asks_for_help setting j i (r ∷ ranges) l))) (helpers_among (seat_at setting j) (facts_at u j) list i r.first) k out k_is_asked
          (subst (IsIn out) (sym all) there) in
          let (frame, at, read) = sent_frame u.sent c.cast (cast_of_is_in c.cast (sent_casts u) (w.consistent.sent i c.cast (in_is_cast_of c.cast (own_casts (facts_at u i)) c.own))) in
          let honest = all_at (λ (frame : SentFrame). IsHonest setting.group (facts_at u) frame.bytes) u.sent frame w.consistent.honest at in
          let h = w.hands j i out frame lt_j lt_i given_j other (subst (λ (rs : List Range). IsIn out (handed_by setting list u j i rs)) (sym are) by_k) at
          (sym (honest_text setting.group (facts_at u) frame.bytes (CastFrame c.cast) honest read)) in
          own_cast_comes setting u t u i j n lt_i lt_j w.consistent
          (record { cast = c.cast; there = c.own; found = c.found; has = c.has; sender_is = c.sender_is; number_is = c.number_is }) h.again h.same h.takes

    -- so it comes
    pub help_comes : Comes
    help_comes = elim (cases_eq j k) [
      | inl same ↦ delivered_comes s inv round_is_later (subst (λ (l : ℕ). n ≤ delivered (seat_at setting l) (facts_at s l) i) (sym same) has)
      | inr new ↦ by_another new
    ]
      where
        by_another : j ≢ k → Comes
        by_another new = decided (is_there (casts_in (facts_at u j)) i n) refl
          where
            told : (n ≤ known (facts_at w.supplied j) i) × (n ≤ acknowledged_of (seat_at setting j) (facts_at w.supplied j) k i)
            told =
                let both = status_comes (Given list) setting s u inv w.waves k j lt_k lt_j given_k given_j new in
                let of_it = both.0 i lt_i other in
                let by_it = both.1 i lt_i (λ e. third (sym e)) in
                (omega (arith, has, of_it), omega (arith, has, by_it))

            by_ranges : is_there (casts_in (facts_at w.supplied j)) i n ≡ false → delivered (seat_at setting j) (facts_at w.supplied j) i < n
                → (ranges : List Range) → ranges_of (missing (seat_at setting j) (facts_at w.supplied j) i) ≡ ranges → Comes
            by_ranges lacks few ranges are =
                let h = w.consistent.together in
                let close = near_is_so setting.group (facts_at u) h i j lt_i lt_j in
                let cast = delivered_at_most setting.group (facts_at u) h k i lt_k lt_i in
                let has_it = has_then in
                let some = missing_is_in_some (seat_at setting j) (facts_at u j) i (h.legal j lt_j) n (record {
                  above = lacking_is_above (casts_in (facts_at u j)) i n low lacks;
                  heard_of = told.0;
                  in_window = omega (arith, close, cast, has_it);
                  not_there = lacks;
                }) in
                asks ranges are (subst (λ (rs : List Range). is_in_some rs n ≡ true) are some)
                (subst (AreRanges (begin + 1)) are (missing_ranges_are (seat_at setting j) (facts_at u j) i (h.legal j lt_j)))
              where
                asks : (ranges : List Range) → ranges_of (missing (seat_at setting j) (facts_at w.supplied j) i) ≡ ranges → is_in_some ranges n ≡ true
                    → AreRanges (expanded_at w.supplied j i + 1) ranges → Comes
                asks [] are some rise = absurd cc
                asks (r ∷ ranges) are some rise = help_brings r ranges are rise some new few told.1

            decided : (b : Bool) → is_there (casts_in (facts_at w.supplied j)) i n ≡ b → Comes
            decided true there = there_later u t w.to_end j i n there
            decided false lacks = elim (cases_lt (delivered (seat_at setting j) (facts_at u j) i) n) [
              | inl few ↦ by_ranges lacks few (ranges_of (missing (seat_at setting j) (facts_at u j) i)) refl
              | inr many ↦ delivered_comes u w.consistent w.to_end many
            ]
