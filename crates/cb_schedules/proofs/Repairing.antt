-- Round after round: everything that was cast comes to everybody, and is delivered.
use Rattle.std.proofs.Common.{◌≡◌, ◌≢◌, ℕ, zero, suc, ◌+◌, ◌-◌, ◌*◌, ◌<◌, ◌≤◌, true, not, ◌++◌, length, drop, min, sym, ap, subst, ◌∙◌, arith, inl, inr}
use Rattle.std.specs.List.{AllByRecursion, filter, range_with_len}
use Rattle.std.proofs.lemmas.Bool.{cases_lt, cases_eq}
use Rattle.cb_times.specs.declared.name.Name.{Name}
use Rattle.cb_frames.specs.declared.frame.TheConstants.{MOST_FRAMES}
use Rattle.cb_history.specs.Facts.{casts_in, is_there}
use Rattle.cb_history.specs.Known.{known}
use Rattle.cb_history.specs.View.{view}
use Rattle.cb_history.specs.Answers.{delivered, own_casts}
use Rattle.cb_history.proofs.Runs.{expanded_are_there, delivered_is_expanded}
use Rattle.cb_history.proofs.Times.{seen_is_there}
use Rattle.cb_schedules.specs.Schedule.{Setting, IsSetting, seat_at, GroupState, run_from}
use Rattle.cb_schedules.specs.Messages.{facts_at, HasDelivered}
use Rattle.cb_schedules.specs.Honest.{member_of}
use Rattle.cb_schedules.specs.Consistent.{IsConsistent}
use Rattle.cb_schedules.specs.Rounds.{tick_steps, arrivals_since, ticked, answered, round_steps, steps_of_rounds, after_rounds}
use Rattle.cb_schedules.specs.RoundLaws.{IsNoCastStep, EverybodyHasEverything, EverybodyHasTheSame, NothingIsMissing, EverybodyHasHeard, ArrivedEverywhereIsDelivered, cast_count, expanded_at}
use Rattle.cb_schedules.proofs.GoingOn.{runs_join_from}
use Rattle.cb_schedules.proofs.Courses.{consistent_from}
use Rattle.cb_schedules.proofs.Lists.{all_both}
use Rattle.cb_schedules.proofs.Members.{delivered_at_most, stands_at}
use Rattle.cb_schedules.proofs.Moments.{has_there, own_cast_of, is_made, seen_has}
use Rattle.cb_schedules.proofs.Closing.{IsClosed, seen_number, closed_is_seen}
use Rattle.cb_schedules.proofs.Knowing.{heard_is_so}
use Rattle.cb_schedules.proofs.Headlines.{member_has, cast_stands, numbered}
use Rattle.cb_schedules.proofs.Later.{IsLater, later_itself, run_is_later, cast_count_later}
use Rattle.cb_schedules.proofs.Happening.{FindNoneFullFrom, ticks_cast_nothing, arrivals_cast_nothing}
use Rattle.cb_schedules.proofs.Waves.{Waves, AllLive, waves_of, none_full_splits}
use Rattle.cb_schedules.proofs.Spreading.{AreRounds, heard_behind, all_brought}

-- ---- rounds

pub round_casts_nothing : (setting : Setting) (s : GroupState) → AllByRecursion IsNoCastStep (round_steps setting s)
unfolding round_steps
round_casts_nothing setting s =
    all_both IsNoCastStep (tick_steps setting) (arrivals_since setting (length s.sent) (ticked setting s) ++ arrivals_since setting (length (ticked setting s).sent) (answered setting s))
    (ticks_cast_nothing (range_with_len 0 setting.group.size))
    (all_both IsNoCastStep (arrivals_since setting (length s.sent) (ticked setting s)) (arrivals_since setting (length (ticked setting s).sent) (answered setting s))
    (arrivals_cast_nothing setting (length s.sent) (drop (length s.sent) (ticked setting s).sent))
    (arrivals_cast_nothing setting (length (ticked setting s).sent) (drop (length (ticked setting s).sent) (answered setting s).sent)))

pub rounds_cast_nothing : (setting : Setting) (n : ℕ) (s : GroupState) → AllByRecursion IsNoCastStep (steps_of_rounds setting n s)
unfolding steps_of_rounds
rounds_cast_nothing setting zero s = tt
rounds_cast_nothing setting (suc n) s =
    all_both IsNoCastStep (steps_of_rounds setting n s) (round_steps setting (after_rounds setting n s)) (rounds_cast_nothing setting n s) (round_casts_nothing setting (after_rounds setting n s))

-- one round more
pub next_round : (setting : Setting) (n : ℕ) (s : GroupState) → after_rounds setting (suc n) s ≡ run_from setting (after_rounds setting n s) (round_steps setting (after_rounds setting n s))
unfolding steps_of_rounds
next_round setting n s = runs_join_from setting s (steps_of_rounds setting n s) (round_steps setting (after_rounds setting n s))

pub rounds_are_later : (setting : Setting) (n : ℕ) (s : GroupState) → IsLater s (after_rounds setting n s)
rounds_are_later setting n s = run_is_later setting s (steps_of_rounds setting n s) (rounds_cast_nothing setting n s)

pub none_full_before : (setting : Setting) (n : ℕ) (s : GroupState) → FindNoneFullFrom setting s (steps_of_rounds setting (suc n) s)
    → FindNoneFullFrom setting s (steps_of_rounds setting n s) × FindNoneFullFrom setting (after_rounds setting n s) (round_steps setting (after_rounds setting n s))
unfolding steps_of_rounds
none_full_before setting n s none = none_full_splits setting s (steps_of_rounds setting n s) (round_steps setting (after_rounds setting n s)) none

module _ (setting : Setting) (is : IsSetting setting) (s : GroupState) (inv : IsConsistent setting s) where
  abbrev pub behind : ℕ → GroupState
  behind n = run_from setting s (steps_of_rounds setting n s)

  pub consistent_behind : (n : ℕ) → IsConsistent setting (behind n)
  consistent_behind n = consistent_from setting is s inv (steps_of_rounds setting n s)

  -- the last of so many rounds
  pub last_round : (n : ℕ) → FindNoneFullFrom setting s (steps_of_rounds setting (suc n) s) → Waves AllLive setting (behind n) (behind (suc n))
  last_round n none =
      subst (Waves AllLive setting (behind n)) (sym (next_round setting n s))
      (waves_of setting is (behind n) (consistent_behind n) (none_full_before setting n s none).1)

  -- so with the first ones
  none_full_first : (n k : ℕ) → k ≤ n → FindNoneFullFrom setting s (steps_of_rounds setting n s) → FindNoneFullFrom setting s (steps_of_rounds setting k s)
  none_full_first zero k le none = let e : 0 ≡ k = omega (arith, le) in subst (λ (m : ℕ). FindNoneFullFrom setting s (steps_of_rounds setting m s)) e none
  none_full_first (suc n) k le none = elim (cases_lt n k) [
    | inl last ↦ let e : suc n ≡ k = omega (arith, le, last) in subst (λ (m : ℕ). FindNoneFullFrom setting s (steps_of_rounds setting m s)) e none
    | inr before ↦ none_full_first n k before (none_full_before setting n s none).0
  ]

  rounds_are : (n : ℕ) → FindNoneFullFrom setting s (steps_of_rounds setting n s) → AreRounds AllLive setting behind n
  rounds_are n none = record {
    consistent = consistent_behind;
    later = λ k. subst (IsLater (behind k)) (sym (next_round setting k s)) (run_is_later setting (behind k) (round_steps setting (behind k)) (round_casts_nothing setting (behind k)));
    round = λ k lt. record {
      supplied = behind (suc k);
      waves = last_round k (none_full_first n (suc k) (omega (arith, lt)) none);
      to_end = later_itself (behind (suc k));
    };
  }

  -- as many casts as before
  pub same_count_behind : (n i : ℕ) → i < setting.group.size → cast_count setting (behind n) i ≡ cast_count setting s i
  same_count_behind n i lt = cast_count_later setting s (behind n) inv (consistent_behind n) (rounds_are_later setting n s) i lt

  -- everybody has heard of every cast
  pub everybody_heard_behind : (n : ℕ) → FindNoneFullFrom setting s (steps_of_rounds setting (suc n) s) → EverybodyHasHeard setting (behind (suc n))
  everybody_heard_behind n none j i lt_j lt_i ne =
      let heard = heard_behind AllLive setting behind (suc n) (rounds_are (suc n) none) n j i (omega arith) lt_j lt_i tt tt ne in
      let most = heard_is_so setting.group (facts_at (behind (suc n))) (consistent_behind (suc n)).together j i lt_j lt_i in
      omega (arith, heard, most, same_count_behind 0 i lt_i, same_count_behind (suc n) i lt_i)

  -- and all casts are expanded
  pub everything_is_expanded : (n j i : ℕ) → setting.group.window ≤ n * MOST_FRAMES → FindNoneFullFrom setting s (steps_of_rounds setting (suc n) s) → j < setting.group.size → i < setting.group.size → j ≢ i
      → cast_count setting s i ≤ expanded_at (behind (suc n)) j i
  everything_is_expanded n j i wide none lt_j lt_i ne =
      let all = all_brought AllLive setting behind n (rounds_are (suc n) none) wide j i lt_j lt_i tt tt ne in
      omega (arith, all, same_count_behind 0 i lt_i)

-- ---- where everything has arrived

-- each member has all casts of each
abbrev pub HasAll : Setting → GroupState → Type 0
HasAll setting s = (j i n : ℕ) → j < setting.group.size → i < setting.group.size → 1 ≤ n → n ≤ cast_count setting s i → is_there (casts_in (facts_at s j)) i n ≡ true

pub all_behind : (setting : Setting) (is : IsSetting setting) (s : GroupState) (inv : IsConsistent setting s) (n : ℕ) → setting.group.window ≤ n * MOST_FRAMES
    → FindNoneFullFrom setting s (steps_of_rounds setting (suc n) s) → HasAll setting (after_rounds setting (suc n) s)
all_behind setting is s inv n wide none j i m lt_j lt_i low high =
    let now = after_rounds setting (suc n) s in
    let same = same_count_behind setting is s inv (suc n) i lt_i in
    elim (cases_eq j i) [
      | inl own ↦
          let h = (consistent_behind setting is s inv (suc n)).together in
          let here : is_there (casts_in (facts_at now i)) i m ≡ true =
          seen_is_there (seat_at setting i) (casts_in (facts_at now i)) (view setting.group.size (facts_at now i)) (own_casts (facts_at now i)) i m (stands_at setting.group (facts_at now) h i lt_i) low high in
          subst (λ (k : ℕ). is_there (casts_in (facts_at now k)) i m ≡ true) (sym own) here
      | inr other ↦
          let most = everything_is_expanded setting is s inv n j i wide none lt_j lt_i other in
          expanded_are_there (casts_in (facts_at now j)) i m low (omega (arith, most, high, same))
    ]

module _ (setting : Setting) (s : GroupState) (inv : IsConsistent setting s) where
  -- what somebody has delivered is one of its sender's casts
  pub is_one_of_the_casts : (k : ℕ) (m : Name) → HasDelivered setting s k m → (m.sender < setting.group.size) × (1 ≤ m.number) × (m.number ≤ cast_count setting s m.sender)
  is_one_of_the_casts k m has =
      let there = has_there setting.group (facts_at s) inv.together k m has (member_has setting s inv k m has) in
      let c = own_cast_of setting.group (facts_at s) inv.together k m there in (
        c.sender_member,
        numbered setting s inv k m has,
        is_made setting.group (facts_at s) inv.together k m c,
      )

  module _ (all : HasAll setting s) where
    -- each cast is a closed arrival everywhere
    closed : (j : ℕ) (m : Name) → j < setting.group.size → m.sender < setting.group.size → 1 ≤ m.number → m.number ≤ cast_count setting s m.sender → IsClosed setting.group (facts_at s) inv.together j m
    closed j m lt lt_m low high = record {
      here = all j m.sender m.number lt lt_m low high;
      past = λ earlier before.
          let one = is_one_of_the_casts before.from.member earlier (cast_stands setting s inv earlier (before.from, before.cast_earlier)) in
          all j earlier.sender earlier.number lt one.0 one.1 one.2;
    }

    -- so what is delivered anywhere is delivered everywhere
    pub delivered_everywhere : (j k : ℕ) (m : Name) → j < setting.group.size → HasDelivered setting s k m → HasDelivered setting s j m
    delivered_everywhere j k m lt has =
        let one = is_one_of_the_casts k m has in
        seen_has (member_of setting.group j) (facts_at s j) m (closed_is_seen setting.group (facts_at s) inv.together j m (closed j m lt one.0 one.1 one.2))

    pub has_everything : EverybodyHasEverything setting s
    has_everything j m lt cast = delivered_everywhere j (cast.0).member m lt (cast_stands setting s inv m cast)

    pub has_the_same : EverybodyHasTheSame setting s
    has_the_same j k m lt_j lt_k = ((λ has. delivered_everywhere k j m lt_k has), (λ has. delivered_everywhere j k m lt_j has))

    -- by number
    pub all_delivered : (j i : ℕ) → j < setting.group.size → i < setting.group.size → delivered (seat_at setting j) (facts_at s j) i ≡ cast_count setting s i
    all_delivered j i lt_j lt_i =
        let most = delivered_at_most setting.group (facts_at s) inv.together j i lt_j lt_i in
        elim (cases_lt 0 (cast_count setting s i)) [
          | inr none ↦ omega (arith, none, most)
          | inl some ↦
              let m : Name = record { sender = i; number = delivered (seat_at setting i) (facts_at s i) i } in
              let number = seen_number setting.group (facts_at s) inv.together j m lt_j (closed_is_seen setting.group (facts_at s) inv.together j m (closed j m lt_j lt_i (omega (arith, some)) (omega arith))) in
              omega (arith, number.1, most)
        ]

    -- and nothing is missing
    pub none_missing : NothingIsMissing setting s
    none_missing j i lt_j lt_i =
        let most = heard_is_so setting.group (facts_at s) inv.together j i lt_j lt_i in
        let low = (delivered_is_expanded (seat_at setting j) (facts_at s j) (inv.together.legal j lt_j)).0 i in
        let high = min (known (facts_at s j) i) (delivered (seat_at setting j) (facts_at s j) i + setting.group.window) in
        let none : high - expanded_at s j i ≡ 0 = omega (arith, most, low, all_delivered j i lt_j lt_i) in
        ap (λ (n : ℕ). filter (λ k. not (is_there (casts_in (facts_at s j)) i k)) (range_with_len (expanded_at s j i + 1) n)) none

  -- what the headline makes of it
  pub arrived_is_delivered : ArrivedEverywhereIsDelivered setting s
  arrived_is_delivered arrived j m lt cast =
      seen_has (member_of setting.group j) (facts_at s j) m (closed_is_seen setting.group (facts_at s) inv.together j m (record {
        here = sym (inv.arrived j m) ∙ arrived j m lt cast;
        past = λ earlier before. sym (inv.arrived j earlier) ∙ arrived j earlier lt (before.from, before.cast_earlier);
      }))
