-- A worked succession of two of four members, where the other two are silent.
use Rattle.std.proofs.Common.{◌≡◌, ℕ, zero, Bool, true, false, ◌||◌, eqb, Option, List, [], ◌∷◌, ◌++◌, length, map, Some, None, refl, sym, subst, arith, inl, inr}
use Rattle.std.proofs.lemmas.Bool.{eqb-true, or_cases}
use Rattle.cb_varint.specs.Reading.{number_at, spelling}
use Rattle.cb_frames.specs.Fields.{One, messages_of, first_number, last_number}
use Rattle.cb_frames.specs.Text.{text_of}
use Rattle.cb_frames.specs.Reading.{frame_at, head_at, cast_at, burst_at, payloads_at, next_payload_at, status_at, request_at, help_at, pairs_at, pair_at}
use Rattle.cb_history.specs.View.{view, drained}
use Rattle.cb_history.specs.Answers.{cast_answer, arrive_answer, tick_answer}
use Rattle.cb_schedules.specs.Schedule.{CastStep, ArriveStep, Schedule, GroupState, step_after, nothing_yet, run_from, run}
use Rattle.cb_schedules.specs.Messages.{stamped_lists}
use Rattle.cb_schedules.specs.Rounds.{FindNoneFull}
use Rattle.cb_schedules.specs.RoundLaws.{rounds_to_deliver}
use Rattle.cb_schedules.specs.RoundsAmong.{given_ticked, given_answered, given_supplied, round_among, rounds_among}
use Rattle.cb_schedules.specs.Succession.{Plan, EndableGroup, IsEndable, is_listed, may_begin, the_rules, SuccessionStep, Happens, Ends, SuccessionState, succession_step, succession_from, succession}
use Rattle.cb_schedules.specs.SuccessionRounds.{MayBeginNow, rounds_of_listed, behind_rounds_of_listed, WaitsFor}
use Rattle.cb_schedules.proofs.Happening.{none_full_from, from_none_full}
use Rattle.cb_schedules.proofs.Waves.{none_full_splits}
use Rattle.cb_schedules.proofs.Room.{room_enough}
use Rattle.cb_schedules.proofs.SuccessionRounds.{silent_members_are_not_needed}

-- plan 8 goes on with members 1 and 2; its text in this row is the byte 0
abbrev plan : Plan
plan = record { number = 8; size = 2; window = 4; list = 1 ∷ 2 ∷ []; note = [] }

abbrev reading : List ℕ → Option Plan
reading (zero ∷ []) = Some plan
reading other = None

-- group 7 of four members with a window of 4, of which one place is kept
abbrev four : EndableGroup
four = record { setting = record { group = record { number = 7; size = 4; window = 4 }; limit = 100 }; plan_in = reading; kept = 1 }

-- Member 3 casts, and member 2 alone delivers it. Members 1 and 2 end; nothing arrives, and members 0 and 3 are silent from now on.
abbrev two_end : List SuccessionStep
two_end = Happens (CastStep 3 (One (97 ∷ []))) ∷ Happens (ArriveStep 2 0) ∷ Ends 1 (0 ∷ []) ∷ Ends 2 (0 ∷ []) ∷ []

-- which of the two may begin
abbrev they_may_begin : SuccessionState → List Bool
they_may_begin t = map (λ k. may_begin four t.begun (stamped_lists four.setting t.group k) k (0 ∷ []) plan) (1 ∷ 2 ∷ [])

at_first_they_wait : they_may_begin (succession the_rules four two_end) ≡ false ∷ false ∷ []
unfolding succession_step succession_from step_after run_from cast_answer arrive_answer tick_answer view drained frame_at head_at cast_at burst_at payloads_at next_payload_at status_at request_at help_at pairs_at pair_at number_at text_of spelling messages_of first_number last_number
at_first_they_wait = refl

behind_the_rounds_they_may : they_may_begin (behind_rounds_of_listed four plan two_end) ≡ true ∷ true ∷ []
unfolding succession_step succession_from rounds_among round_among given_ticked given_answered given_supplied step_after run_from cast_answer arrive_answer tick_answer view drained frame_at head_at cast_at burst_at payloads_at next_payload_at status_at request_at help_at pairs_at pair_at number_at text_of spelling messages_of first_number last_number
behind_the_rounds_they_may = refl

-- ---- the law speaks of this example

the_group : IsEndable four
the_group = record {
  is_setting = record {
    group = record {
      size = record { two_or_more = omega arith; at_most_sixty_four = omega arith };
      width = record { one_or_more = omega arith; at_most_widest = omega arith };
      number_fits = omega arith;
    };
    one_or_more = omega arith;
  };
  one_or_more = omega arith;
  less = omega arith;
}

-- each of the two has ended by the plan and waits
one_waits : WaitsFor four (succession the_rules four two_end) (0 ∷ []) plan 1
unfolding succession_step succession_from step_after run_from cast_answer arrive_answer tick_answer view drained frame_at head_at cast_at burst_at payloads_at next_payload_at status_at request_at help_at pairs_at pair_at number_at text_of spelling messages_of first_number last_number
one_waits = record { member = omega arith; ended = record { index = 0; name = record { sender = 1; number = 1 }; stands = refl }; last = refl; waits = refl }

two_waits : WaitsFor four (succession the_rules four two_end) (0 ∷ []) plan 2
unfolding succession_step succession_from step_after run_from cast_answer arrive_answer tick_answer view drained frame_at head_at cast_at burst_at payloads_at next_payload_at status_at request_at help_at pairs_at pair_at number_at text_of spelling messages_of first_number last_number
two_waits = record { member = omega arith; ended = record { index = 1; name = record { sender = 2; number = 1 }; stands = refl }; last = refl; waits = refl }

each_waits : (l : ℕ) → is_listed l plan ≡ true → WaitsFor four (succession the_rules four two_end) (0 ∷ []) plan l
each_waits l listed = elim (or_cases (eqb 1 l) (eqb 2 l || false) listed) [
  | inl one ↦ subst (WaitsFor four (succession the_rules four two_end) (0 ∷ []) plan) (eqb-true 1 l one) one_waits
  | inr rest ↦ elim (or_cases (eqb 2 l) false rest) [
    | inl two ↦ subst (WaitsFor four (succession the_rules four two_end) (0 ∷ []) plan) (eqb-true 2 l two) two_waits
    | inr none ↦ absurd cc
  ]
]

-- the steps so far, and those of the rounds
abbrev done : Schedule
done = CastStep 3 (One (97 ∷ [])) ∷ ArriveStep 2 0 ∷ CastStep 1 (One (0 ∷ [])) ∷ CastStep 2 (One (0 ∷ [])) ∷ []

abbrev rounds : Schedule
rounds = rounds_among four.setting plan.list (rounds_to_deliver four.setting) (run four.setting done)

done_is : (succession the_rules four two_end).group ≡ run four.setting done
unfolding succession_step succession_from rounds_among round_among given_ticked given_answered given_supplied step_after run_from cast_answer arrive_answer tick_answer view drained frame_at head_at cast_at burst_at payloads_at next_payload_at status_at request_at help_at pairs_at pair_at number_at text_of spelling messages_of first_number last_number
done_is = refl

all_steps : length (done ++ rounds) ≡ 17
unfolding succession_step succession_from rounds_among round_among given_ticked given_answered given_supplied step_after run_from cast_answer arrive_answer tick_answer view drained frame_at head_at cast_at burst_at payloads_at next_payload_at status_at request_at help_at pairs_at pair_at number_at text_of spelling messages_of first_number last_number
all_steps = refl

there_is_room : FindNoneFull four.setting (succession the_rules four two_end).group (rounds_of_listed four plan (succession the_rules four two_end))
there_is_room =
    let steps = all_steps in
    subst (λ (s : GroupState). FindNoneFull four.setting s (rounds_among four.setting plan.list (rounds_to_deliver four.setting) s)) (sym done_is)
    (from_none_full four.setting (run four.setting done) rounds
    (none_full_splits four.setting nothing_yet done rounds (none_full_from four.setting nothing_yet (done ++ rounds) (room_enough four.setting nothing_yet (done ++ rounds) (λ k. omega (arith, steps))))).1)

-- so by the law each of them may begin
by_the_law : (k : ℕ) → is_listed k plan ≡ true → MayBeginNow four (behind_rounds_of_listed four plan two_end) k (0 ∷ []) plan
by_the_law k listed = silent_members_are_not_needed four two_end (0 ∷ []) plan k the_group refl each_waits there_is_room listed
