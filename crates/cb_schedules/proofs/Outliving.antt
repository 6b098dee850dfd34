-- Round after round without a silent member: what some of the others have, all of them get.
use Rattle.std.proofs.Common.{◌≡◌, ◌≢◌, ℕ, zero, suc, ◌+◌, ◌-◌, ◌*◌, ◌<◌, ◌≤◌, true, sym, subst, ◌∙◌, arith, inl, inr, ◌⊎◌}
use Rattle.std.proofs.lemmas.Bool.{cases_lt, cases_eq}
use Rattle.cb_times.specs.declared.name.Name.{Name}
use Rattle.cb_frames.specs.declared.frame.TheConstants.{MOST_FRAMES}
use Rattle.cb_frames.specs.Fields.{CastFields}
use Rattle.cb_history.specs.Facts.{casts_in, is_there}
use Rattle.cb_history.specs.View.{view, is_among}
use Rattle.cb_history.specs.Answers.{delivered, own_casts}
use Rattle.cb_history.proofs.Views.{IsIn}
use Rattle.cb_history.proofs.Lists.{carried_there}
use Rattle.cb_history.proofs.Times.{seen_is_there}
use Rattle.cb_history.proofs.Runs.{message_is_there, run_at_most, expanded_are_there, delivered_is_expanded}
use Rattle.cb_schedules.specs.Schedule.{Setting, IsSetting, seat_at, GroupState, run_from}
use Rattle.cb_schedules.specs.Messages.{facts_at, HasDelivered}
use Rattle.cb_schedules.specs.Honest.{member_of, AreTogether}
use Rattle.cb_schedules.specs.Consistent.{IsConsistent}
use Rattle.cb_schedules.specs.RoundLaws.{cast_count, expanded_at}
use Rattle.cb_schedules.specs.HelpRounds.{help_round, help_rounds_by, help_rounds}
use Rattle.cb_schedules.specs.HelpRoundLaws.{OthersHaveTheSame, OthersHaveWhatAnyHad}
use Rattle.cb_schedules.proofs.Courses.{consistent_from}
use Rattle.cb_schedules.proofs.Members.{carrier_there, inside, stands_at, delivered_at_most}
use Rattle.cb_schedules.proofs.Moments.{called, own_cast_of, is_made, has_there, has_seen, seen_has}
use Rattle.cb_schedules.proofs.Closing.{seen_number, number_seen, past_is_seen, closed_is_seen}
use Rattle.cb_schedules.proofs.Headlines.{cast_stands, numbered}
use Rattle.cb_schedules.proofs.Knowing.{near_is_so}
use Rattle.cb_schedules.proofs.Later.{IsLater, later_itself, later_joins, delivered_later, there_later, expanded_later, cast_count_later, run_is_later}
use Rattle.cb_schedules.proofs.Happening.{FindNoneFullFrom}
use Rattle.cb_schedules.proofs.Waves.{none_full_splits}
use Rattle.cb_schedules.proofs.Spreading.{AreRounds, same_count, brought, all_brought}
use Rattle.cb_schedules.proofs.HelpWaves.{Lives, HelpWaves, help_waves_of}
use Rattle.cb_schedules.proofs.Helped.{help_comes}
use Rattle.cb_schedules.proofs.Holding.{others_hold_these}
use Rattle.cb_schedules.proofs.HelpSteps.{round_is_of_others, help_round_casts_nothing, help_rounds_cast_nothing, next_help_round}
use Rattle.cb_schedules.proofs.Depending.{expanded_is_delivered, counted_is_heard_of}

-- one of the others is above a number, or none is
some_or_none : (silent : ℕ) (f : ℕ → ℕ) (e size : ℕ) → ((k : ℕ) × (k < size) × Lives silent k × (e < f k)) ⊎ ((k : ℕ) → k < size → Lives silent k → f k ≤ e)
some_or_none silent f e zero = inr (λ k lt live. absurd (omega (arith, lt)))
some_or_none silent f e (suc size) = elim (some_or_none silent f e size) [
  | inl some ↦ let lt = some.1 in inl (some.0, omega (arith, lt), some.2, some.3)
  | inr none ↦ elim (cases_eq size silent) [
    | inl same ↦ inr (λ k lt live. none k (omega (arith, lt, live_is_other k same live)) live)
    | inr other ↦ elim (cases_lt e (f size)) [
      | inl above ↦ inl (size, omega arith, other, above)
      | inr below ↦ inr (λ k lt live. elim (cases_eq k size) [
        | inl last ↦ subst (λ (n : ℕ). f n ≤ e) (sym last) below
        | inr before ↦ none k (omega (arith, lt, before)) live
      ])
    ]
  ]
]
  where
    live_is_other : (k : ℕ) → size ≡ silent → Lives silent k → k ≢ size
    live_is_other k same live last = live (last ∙ same)

-- what is delivered stays so
still_delivered : (setting : Setting) (s t : GroupState) → IsConsistent setting s → IsConsistent setting t → IsLater s t → (k : ℕ) (m : Name) → k < setting.group.size → HasDelivered setting s k m → HasDelivered setting t k m
still_delivered setting s t inv inv_t later k m lt has =
    let number = seen_number setting.group (facts_at s) inv.together k m lt (has_seen (member_of setting.group k) (facts_at s k) m has) in
    let more = delivered_later s t later (seat_at setting k) k m.sender in
    seen_has (member_of setting.group k) (facts_at t k) m (number_seen setting.group (facts_at t) inv_t.together k m lt number.0 (omega (arith, number.1, more)))

module _ (setting : Setting) (is : IsSetting setting) (silent : ℕ) (lt_i : silent < setting.group.size) (s : GroupState) (inv : IsConsistent setting s) where
  abbrev pub behind : ℕ → GroupState
  behind n = run_from setting s (help_rounds setting silent n s)

  pub consistent_behind : (n : ℕ) → IsConsistent setting (behind n)
  consistent_behind n = consistent_from setting is s inv (help_rounds setting silent n s)

  one_later : (n : ℕ) → IsLater (behind n) (behind (suc n))
  one_later n =
      subst (IsLater (behind n)) (sym (next_help_round setting silent n s))
      (run_is_later setting (behind n) (help_round setting silent (behind n)) (help_round_casts_nothing setting silent (behind n)))

  later : (n more : ℕ) → IsLater (behind n) (behind (n + more))
  later n zero = let e : n ≡ n + 0 = omega arith in subst (λ (k : ℕ). IsLater (behind n) (behind k)) e (later_itself (behind n))
  later n (suc more) =
      let e : suc (n + more) ≡ n + suc more = omega arith in
      subst (λ (k : ℕ). IsLater (behind n) (behind k)) e (later_joins (behind n) (behind (n + more)) (behind (suc (n + more))) (later n more) (one_later (n + more)))

  later_to : (n m : ℕ) → n ≤ m → IsLater (behind n) (behind m)
  later_to n m le = let e : n + (m - n) ≡ m = omega (arith, le) in subst (λ (k : ℕ). IsLater (behind n) (behind k)) e (later n (m - n))

  -- ---- where all of the others have expanded the same

  abbrev expanded : ℕ → ℕ → ℕ
  expanded n j = expanded_at (behind n) j silent

  abbrev AllSame : ℕ → Type 0
  AllSame n = (m : ℕ) × ((j : ℕ) → j < setting.group.size → Lives silent j → expanded n j ≡ m)

  -- a cast that one of the others has in the end, one of them had at first
  abbrev HeldBy : GroupState → CastFields → Type 0
  HeldBy t c = (k : ℕ) × Lives silent k × IsIn c (casts_in (facts_at t k))

  held_before : (n j : ℕ) → Lives silent j → (c : CastFields) → IsIn c (casts_in (facts_at (behind (suc n)) j)) → HeldBy (behind n) c
  held_before n j live c there =
      others_hold_these setting silent (behind n) (HeldBy (behind n)) is (consistent_behind n) (help_round setting silent (behind n)) (round_is_of_others setting silent (behind n)) (λ k live_k d at. (k, live_k, at)) j live c
      (subst (λ (t : GroupState). IsIn c (casts_in (facts_at t j))) (next_help_round setting silent n s) there)

  same_stays : (n : ℕ) → AllSame n → AllSame (suc n)
  same_stays n (m, all) = (
    m,
    λ j lt live.
        let low = all j lt live in
        let more = expanded_later (behind n) (behind (suc n)) (one_later n) j silent in
        elim (cases_lt m (expanded (suc n) j)) [
          | inr most ↦ omega (arith, low, more, most)
          | inl above ↦
              let there = expanded_are_there (casts_in (facts_at (behind (suc n)) j)) silent (suc m) (omega arith) (omega (arith, above)) in
              let c = carrier_there (casts_in (facts_at (behind (suc n)) j)) silent (suc m) there in
              let (k, live_k, held) = held_before n j live c.cast c.there in
              let lt_k = inside setting.group (facts_at (behind n)) (consistent_behind n).together k c.cast held in
              let was_there = message_is_there (casts_in (facts_at (behind n) k)) c.found silent (suc m) (carried_there (casts_in (facts_at (behind n) k)) c.cast c.found held c.has) c.sender_is c.number_is in
              let same = all k lt_k live_k in
              let higher = run_at_most (casts_in (facts_at (behind n) k)) silent (suc m) (λ l first last. elim (cases_eq l (suc m)) [
                | inl at ↦ subst (λ (x : ℕ). is_there (casts_in (facts_at (behind n) k)) silent x ≡ true) (sym at) was_there
                | inr before ↦ expanded_are_there (casts_in (facts_at (behind n) k)) silent l first (omega (arith, last, before, same))
              ]) in
              absurd (omega (arith, higher, same))
        ],
  )

  -- ---- one round

  module _ (count : ℕ) (none : FindNoneFullFrom setting s (help_rounds setting silent count s)) where
    none_full_first : (n k : ℕ) → k ≤ n → FindNoneFullFrom setting s (help_rounds setting silent n s) → FindNoneFullFrom setting s (help_rounds setting silent k s)
    unfolding help_rounds_by
    none_full_first zero k le all = let e : 0 ≡ k = omega (arith, le) in subst (λ (m : ℕ). FindNoneFullFrom setting s (help_rounds setting silent m s)) e all
    none_full_first (suc n) k le all = elim (cases_lt n k) [
      | inl last ↦ let e : suc n ≡ k = omega (arith, le, last) in subst (λ (m : ℕ). FindNoneFullFrom setting s (help_rounds setting silent m s)) e all
      | inr before ↦ none_full_first n k before (none_full_splits setting s (help_rounds setting silent n s) (help_round setting silent (behind n)) all).0
    ]

    waves : (n : ℕ) → n < count → HelpWaves silent setting (behind n) (behind (suc n))
    unfolding help_rounds_by
    waves n lt =
        let first = none_full_first count (suc n) (omega (arith, lt)) none in
        subst (HelpWaves silent setting (behind n)) (sym (next_help_round setting silent n s))
        (help_waves_of setting silent (behind n) is (consistent_behind n) (none_full_splits setting s (help_rounds setting silent n s) (help_round setting silent (behind n)) first).1)

    rounds_are : (n : ℕ) → n ≤ count → AreRounds (Lives silent) setting behind n
    rounds_are n le = record {
      consistent = consistent_behind;
      later = one_later;
      round = λ k lt.
          let w = waves k (omega (arith, lt, le)) in
          record { supplied = w.supplied; waves = w.waves; to_end = later_joins w.supplied w.asked (behind (suc k)) w.to_asked (later_joins w.asked w.answered (behind (suc k)) w.to_answered w.to_end) };
    }

    -- where one of the others has delivered more than all of them have expanded, they expand one more
    step_up : (n e k : ℕ) → n < count → ((j : ℕ) → j < setting.group.size → Lives silent j → e ≤ expanded n j)
        → k < setting.group.size → Lives silent k → suc e ≤ delivered (seat_at setting k) (facts_at (behind n) k) silent → (j : ℕ) → j < setting.group.size → Lives silent j → suc e ≤ expanded (suc n) j
    step_up n e k lt all lt_k live_k has j lt_j live_j =
        let low = all j lt_j live_j in
        run_at_most (casts_in (facts_at (behind (suc n)) j)) silent (suc e) (λ l first last. elim (cases_eq l (suc e)) [
          | inl at ↦
              subst (λ (x : ℕ). is_there (casts_in (facts_at (behind (suc n)) j)) silent x ≡ true) (sym at)
              (help_comes silent setting (behind n) (behind (suc n)) (consistent_behind n) (waves n lt) j (suc e) lt_i lt_j live_j (omega arith) (omega (arith, low)) k lt_k live_k has)
          | inr before ↦ there_later (behind n) (behind (suc n)) (one_later n) j silent l (expanded_are_there (casts_in (facts_at (behind n) j)) silent l first (omega (arith, last, before, low)))
        ])

    -- ---- so many rounds

    module _ (asking : ℕ) (wide : setting.group.window ≤ asking * MOST_FRAMES) (enough : asking < count) where
      -- behind one round more than it takes to ask for a window all casts of the others are with all of them
      all_of_others : (n j x : ℕ) → asking < n → j < setting.group.size → x < setting.group.size → Lives silent j → Lives silent x → j ≢ x → cast_count setting (behind n) x ≤ expanded_at (behind n) j x
      all_of_others n j x lt lt_j lt_x live_j live_x ne =
          let r = rounds_are (suc asking) (omega (arith, enough)) in
          let all = all_brought (Lives silent) setting behind asking r wide j x lt_j lt_x live_j live_x ne in
          let same = same_count (Lives silent) setting behind (suc asking) r n x lt_x in
          let still = expanded_later (behind (suc asking)) (behind n) (later_to (suc asking) n (omega (arith, lt))) j x in
          omega (arith, all, same, still)

      -- so what is expanded of the silent member's casts is delivered
      expanded_delivered : (n e k : ℕ) → asking < n → k < setting.group.size → Lives silent k → suc e ≤ expanded n k → suc e ≤ delivered (seat_at setting k) (facts_at (behind n) k) silent
      expanded_delivered n e k lt lt_k live_k high =
          expanded_is_delivered setting (behind n) (consistent_behind n) k silent (suc e) lt_k (omega arith) high
          (λ x m lt_x live_x other low cast counts. let all = all_of_others n k x lt lt_k lt_x live_k live_x (λ e. other (sym e)) in omega (arith, cast, all))

      -- one round before, what was expanded at first is
      first_delivered : (e k : ℕ) → k < setting.group.size → Lives silent k → suc e ≤ expanded 0 k → suc e ≤ delivered (seat_at setting k) (facts_at (behind asking) k) silent
      first_delivered e k lt_k live_k high =
          let r = rounds_are asking (omega (arith, enough)) in
          let to = later_to 0 asking (omega arith) in
          let still = expanded_later (behind 0) (behind asking) to k silent in
          expanded_is_delivered setting (behind asking) (consistent_behind asking) k silent (suc e) lt_k (omega arith) (omega (arith, high, still))
          (λ x m lt_x live_x other low cast counts.
          let heard = counted_is_heard_of setting (behind 0) (behind asking) (consistent_behind 0) (consistent_behind asking) to k silent (suc e) x lt_k (omega arith) high in
          let same = same_count (Lives silent) setting behind asking r asking x lt_x in
          brought (Lives silent) setting behind asking r asking m k x (omega arith) lt_k lt_x live_k live_x (λ e. other (sym e)) (omega (arith, cast, same)) (omega (arith, counts, heard))
          (omega (arith, cast, same, wide)))

      abbrev AllAbove : ℕ → ℕ → Type 0
      AllAbove n e = (j : ℕ) → j < setting.group.size → Lives silent j → e ≤ expanded n j

      abbrev SameOrAbove : ℕ → ℕ → Type 0
      SameOrAbove n e = AllSame n ⊎ AllAbove n e

      -- a round more brings one more to all, or they have the same
      grow : (n e : ℕ) → asking < n → n < count → SameOrAbove n e → SameOrAbove (suc n) (suc e)
      grow n e low lt (inl same) = inl (same_stays n same)
      grow n e low lt (inr all) = elim (some_or_none silent (expanded n) e setting.group.size) [
        | inl some ↦
            let (k, lt_k, live_k, above) = some in
            inr (step_up n e k lt all lt_k live_k (expanded_delivered n e k low lt_k live_k (omega (arith, above))))
        | inr most ↦ inl (same_stays n (e, λ j lt_j live_j. let least = all j lt_j live_j in let high = most j lt_j live_j in omega (arith, least, high)))
      ]

      same_after : (n : ℕ) → AllSame 0 → AllSame n
      same_after zero same = same
      same_after (suc n) same = same_stays n (same_after n same)

      -- the first rounds bring one more than all had at first
      first_grows : (e : ℕ) → AllAbove 0 e → SameOrAbove (suc asking) (suc e)
      first_grows e all = elim (some_or_none silent (expanded 0) e setting.group.size) [
        | inl some ↦
            let (k, lt_k, live_k, above) = some in
            inr (step_up asking e k enough (λ j lt_j live_j. let low = all j lt_j live_j in omega (arith, low, expanded_later (behind 0) (behind asking) (later_to 0 asking (omega arith)) j silent)) lt_k live_k
            (first_delivered e k lt_k live_k (omega (arith, above))))
        | inr most ↦ inl (same_after (suc asking) (e, λ j lt_j live_j. let low = all j lt_j live_j in let high = most j lt_j live_j in omega (arith, low, high)))
      ]

      so_many : (more n e top : ℕ) → n ≡ suc asking + more → top ≡ suc e + more → n ≤ count → AllAbove 0 e → SameOrAbove n top
      so_many zero n e top at to le all =
          let same : suc asking ≡ n = omega (arith, at) in
          let high : suc e ≡ top = omega (arith, to) in
          subst (λ (k : ℕ). SameOrAbove k top) same (subst (SameOrAbove (suc asking)) high (first_grows e all))
      so_many (suc more) n e top at to le all =
          let same : suc (suc asking + more) ≡ n = omega (arith, at) in
          let high : suc (suc e + more) ≡ top = omega (arith, to) in
          let before = so_many more (suc asking + more) e (suc e + more) (omega arith) (omega arith) (omega (arith, le, at)) all in
          subst (λ (k : ℕ). SameOrAbove k top) same (subst (SameOrAbove (suc (suc asking + more))) high (grow (suc asking + more) (suc e + more) (omega arith) (omega (arith, le, at)) before))

      -- ---- behind them

      expanded_is_cast : (n j : ℕ) → expanded n j ≤ cast_count setting (behind n) silent
      expanded_is_cast n j = elim (cases_lt 0 (expanded n j)) [
        | inr none ↦ omega (arith, none)
        | inl some ↦
            let h = (consistent_behind n).together in
            let m : Name = record { sender = silent; number = expanded_at (behind n) j silent } in
            let there = expanded_are_there (casts_in (facts_at (behind n) j)) silent (expanded n j) (omega (arith, some)) (omega arith) in
            is_made setting.group (facts_at (behind n)) h j m (own_cast_of setting.group (facts_at (behind n)) h j m there)
      ]

      -- as many rounds as the window is wide, and as it takes to ask for it, are enough
      all_same : count ≡ setting.group.window + asking → AllSame count
      all_same are =
          let h = (consistent_behind 0).together in
          let cast = cast_count setting (behind 0) silent in
          let wide = setting.group.window in
          let some = is.group.width.one_or_more in
          let same = cast_count_later setting (behind 0) (behind count) (consistent_behind 0) (consistent_behind count) (later_to 0 count (omega arith)) silent lt_i in
          let first : AllAbove 0 (cast - wide) = λ j lt_j live_j.
          let near = near_is_so setting.group (facts_at (behind 0)) h silent j lt_i lt_j in
          let low = (delivered_is_expanded (seat_at setting j) (facts_at (behind 0) j) (h.legal j lt_j)).0 silent in
          omega (arith, near, low) in
          elim (so_many (wide - 1) count (cast - wide) (suc (cast - wide) + (wide - 1)) (omega (arith, are, some)) (omega arith) (omega arith) first) [
            | inl all ↦ all
            | inr all ↦ (cast_count setting (behind count) silent, λ j lt_j live_j. let high = all j lt_j live_j in omega (arith, high, same, expanded_is_cast count j, some))
          ]

      module _ (are : count ≡ setting.group.window + asking) where
        abbrev h : AreTogether setting.group (facts_at (behind count))
        h = (consistent_behind count).together

        -- what one of the others has delivered is there with each of them
        delivered_is_there : (j k x n : ℕ) → j < setting.group.size → k < setting.group.size → x < setting.group.size → Lives silent j → Lives silent k → 1 ≤ n
            → n ≤ delivered (seat_at setting k) (facts_at (behind count) k) x → is_there (casts_in (facts_at (behind count) j)) x n ≡ true
        delivered_is_there j k x n lt_j lt_k lt_x live_j live_k low high = elim (cases_eq x silent) [
          | inl of_silent ↦
              let (m, all) = all_same are in
              let here = all j lt_j live_j in
              let there = all k lt_k live_k in
              let so = (delivered_is_expanded (seat_at setting k) (facts_at (behind count) k) (h.legal k lt_k)).0 silent in
              let upto : n ≤ delivered (seat_at setting k) (facts_at (behind count) k) silent = subst (λ (y : ℕ). n ≤ delivered (seat_at setting k) (facts_at (behind count) k) y) of_silent high in
              subst (λ (y : ℕ). is_there (casts_in (facts_at (behind count) j)) y n ≡ true) (sym of_silent)
              (expanded_are_there (casts_in (facts_at (behind count) j)) silent n low (omega (arith, upto, so, here, there)))
          | inr live_x ↦
              let cast = delivered_at_most setting.group (facts_at (behind count)) h k x lt_k lt_x in
              elim (cases_eq j x) [
                | inl own ↦
                    let made : n ≤ delivered (seat_at setting j) (facts_at (behind count) j) j = subst (λ (y : ℕ). n ≤ delivered (seat_at setting y) (facts_at (behind count) y) y) (sym own) (omega (arith, high, cast)) in
                    subst (λ (y : ℕ). is_there (casts_in (facts_at (behind count) j)) y n ≡ true) own
                    (seen_is_there (seat_at setting j) (casts_in (facts_at (behind count) j)) (view setting.group.size (facts_at (behind count) j)) (own_casts (facts_at (behind count) j)) j n (stands_at setting.group (facts_at (behind count)) h j lt_j) low made)
                | inr other ↦
                    let all = all_of_others count j x enough lt_j lt_x live_j live_x other in
                    expanded_are_there (casts_in (facts_at (behind count) j)) x n low (omega (arith, high, cast, all))
              ]
        ]

        -- so each of them has delivered it
        delivered_by_all : (j k : ℕ) (m : Name) → j < setting.group.size → k < setting.group.size → Lives silent j → Lives silent k → HasDelivered setting (behind count) k m → HasDelivered setting (behind count) j m
        delivered_by_all j k m lt_j lt_k live_j live_k has =
            let t = behind count in
            let facts = facts_at t in
            let seen = has_seen (member_of setting.group k) (facts_at (behind count) k) m has in
            let there : (x : Name) → is_among (view setting.group.size (facts_at (behind count) k)) (called x) ≡ true → is_there (casts_in (facts_at (behind count) j)) x.sender x.number ≡ true = λ x seen_x.
            let number = seen_number setting.group (facts_at (behind count)) h k x lt_k seen_x in
            let with_it = seen_is_there (seat_at setting k) (casts_in (facts_at (behind count) k)) (view setting.group.size (facts_at (behind count) k)) (own_casts (facts_at (behind count) k)) x.sender x.number (stands_at setting.group (facts_at (behind count)) h k lt_k) number.0 number.1 in
            let c = own_cast_of setting.group (facts_at (behind count)) h k x with_it in
            delivered_is_there j k x.sender x.number lt_j lt_k c.sender_member live_j live_k number.0 number.1 in
            let c = own_cast_of setting.group (facts_at (behind count)) h k m (has_there setting.group (facts_at (behind count)) h k m has lt_k) in
            seen_has (member_of setting.group j) (facts_at (behind count) j) m
            (closed_is_seen setting.group (facts_at (behind count)) h j m (record {
              here = there m seen;
              past = λ earlier before.
                  let low = numbered setting (behind count) (consistent_behind count) before.from.member earlier (cast_stands setting (behind count) (consistent_behind count) earlier (before.from, before.cast_earlier)) in
                  there earlier (past_is_seen setting.group (facts_at (behind count)) h k m earlier c seen low before);
            }))

        pub so_all_have_the_same : OthersHaveTheSame setting silent (behind count)
        so_all_have_the_same j k m lt_j lt_k live_j live_k = ((λ has. delivered_by_all k j m lt_k lt_j live_k live_j has), (λ has. delivered_by_all j k m lt_j lt_k live_j live_k has))

        -- and what one of them had delivered at first
        pub so_all_have_what_any_had : OthersHaveWhatAnyHad setting silent s (behind count)
        so_all_have_what_any_had j k m lt_j lt_k live_j live_k has = delivered_by_all j k m lt_j lt_k live_j live_k (still_delivered setting s (behind count) inv (consistent_behind count) (run_is_later setting s (help_rounds setting silent count s) (help_rounds_cast_nothing setting silent count s)) k m lt_k has)
