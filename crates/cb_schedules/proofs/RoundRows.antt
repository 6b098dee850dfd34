-- Worked rounds: casts that are all lost, and what a few rounds make of it.
use Rattle.std.proofs.Common.{◌≡◌, ℕ, List, [], ◌∷◌, ◌++◌, length, map, Some, None, refl, arith}
use Rattle.std.specs.List.{range_with_len}
use Rattle.cb_varint.specs.Reading.{number_at, spelling}
use Rattle.cb_frames.specs.Fields.{One, Many, messages_of, first_number, last_number}
use Rattle.cb_frames.specs.Text.{text_of}
use Rattle.cb_frames.specs.Reading.{frame_at, head_at, cast_at, burst_at, payloads_at, next_payload_at, status_at, request_at, pairs_at, pair_at}
use Rattle.cb_history.specs.View.{view, drained}
use Rattle.cb_history.specs.Known.{known, stable_of, stable}
use Rattle.cb_history.specs.Answers.{delivered, cast_answer, arrive_answer, tick_answer}
use Rattle.cb_schedules.specs.Schedule.{Setting, IsSetting, nothing_yet, seat_at, CastStep, ArriveStep, TickStep, Schedule, GroupState, step_after, run_from, run}
use Rattle.cb_schedules.specs.Messages.{facts_at}
use Rattle.cb_schedules.specs.Rounds.{tick_steps, receivers, arrivals_from, ticked, answered, round_steps, steps_of_rounds, after_rounds, outcomes_of, FindNoneFull}
use Rattle.cb_schedules.specs.RoundLaws.{EverythingIsStable, NothingChangesAnyMore, rounds_to_deliver, rounds_to_be_stable}
use Rattle.cb_schedules.proofs.Happening.{none_full_from, from_none_full}
use Rattle.cb_schedules.proofs.Waves.{none_full_splits}
use Rattle.cb_schedules.proofs.Room.{room_enough}
use Rattle.cb_schedules.proofs.RoundLaws.{rounds_make_stable, then_nothing_changes}

-- group 7 of three members with a window of 8, and room for 100 entries in each history
abbrev three : Setting
three = record { group = record { number = 7; size = 3; window = 8 }; limit = 100 }

-- member 0 casts twice and member 2 once; nothing arrives
abbrev lost : Schedule
lost = CastStep 0 (One (97 ∷ [])) ∷ CastStep 0 (One (98 ∷ [])) ∷ CastStep 2 (One (99 ∷ [])) ∷ []

-- how many of each member's messages each member has delivered
abbrev counts_at : GroupState → List (List ℕ)
counts_at s = map (λ j. map (λ i. delivered (seat_at three j) (facts_at s j) i) (0 ∷ 1 ∷ 2 ∷ [])) (0 ∷ 1 ∷ 2 ∷ [])

abbrev stable_at : GroupState → List ℕ
stable_at s = map (λ i. stable (seat_at three i) (facts_at s i)) (0 ∷ 1 ∷ 2 ∷ [])

-- what each member knows to be stable of each sender's casts
abbrev known_stable_at : GroupState → List (List ℕ)
known_stable_at s = map (λ j. map (stable_of (seat_at three j) (facts_at s j)) (0 ∷ 1 ∷ 2 ∷ [])) (0 ∷ 1 ∷ 2 ∷ [])

abbrev entries_at : GroupState → List ℕ
entries_at s = map (λ k. length (s.histories k)) (0 ∷ 1 ∷ 2 ∷ [])

ticks_are_in_order : tick_steps three ≡ TickStep 0 ∷ TickStep 1 ∷ TickStep 2 ∷ []
ticks_are_in_order = refl

to_all_others : receivers 3 1 None ≡ 0 ∷ 2 ∷ []
to_all_others = refl

to_the_one_named : receivers 3 1 (Some 2) ≡ 2 ∷ []
to_the_one_named = refl

numbered_on : arrivals_from three 5 (record { from = 0; to = None; bytes = [] } ∷ record { from = 2; to = Some 0; bytes = [] } ∷ [])
    ≡ ArriveStep 1 5 ∷ ArriveStep 2 5 ∷ ArriveStep 0 6 ∷ []
numbered_on = refl

-- in the first round three statuses go out, each to two others, and nothing is asked for yet
the_first_round : round_steps three (run three lost)
    ≡ TickStep 0 ∷ TickStep 1 ∷ TickStep 2 ∷ ArriveStep 1 3 ∷ ArriveStep 2 3 ∷ ArriveStep 0 4 ∷ ArriveStep 2 4 ∷ ArriveStep 0 5 ∷ ArriveStep 1 5 ∷ []
unfolding round_steps ticked answered step_after run_from cast_answer arrive_answer tick_answer view drained frame_at head_at cast_at status_at request_at pairs_at pair_at number_at text_of spelling messages_of first_number last_number
the_first_round = refl

-- everybody has heard of every cast behind it, and nobody has got one
nobody_has_one : counts_at (after_rounds three 1 (run three lost)) ≡ (2 ∷ 0 ∷ 0 ∷ []) ∷ (0 ∷ 0 ∷ 0 ∷ []) ∷ (0 ∷ 0 ∷ 1 ∷ []) ∷ []
unfolding steps_of_rounds round_steps ticked answered step_after run_from cast_answer arrive_answer tick_answer view drained frame_at head_at cast_at status_at request_at pairs_at pair_at number_at text_of spelling messages_of first_number last_number
nobody_has_one = refl

all_have_heard : map (λ j. known (facts_at (after_rounds three 1 (run three lost)) j) 0) (1 ∷ 2 ∷ []) ≡ 2 ∷ 2 ∷ []
unfolding steps_of_rounds round_steps ticked answered step_after run_from cast_answer arrive_answer tick_answer view drained frame_at head_at cast_at status_at request_at pairs_at pair_at number_at text_of spelling messages_of first_number last_number
all_have_heard = refl

-- behind the second round everybody has everything, and nothing is known to be stable
all_have_all : counts_at (after_rounds three 2 (run three lost)) ≡ (2 ∷ 0 ∷ 1 ∷ []) ∷ (2 ∷ 0 ∷ 1 ∷ []) ∷ (2 ∷ 0 ∷ 1 ∷ []) ∷ []
unfolding steps_of_rounds round_steps ticked answered step_after run_from cast_answer arrive_answer tick_answer view drained frame_at head_at cast_at status_at request_at pairs_at pair_at number_at text_of spelling messages_of first_number last_number
all_have_all = refl

not_stable_yet : stable_at (after_rounds three 2 (run three lost)) ≡ 0 ∷ 0 ∷ 0 ∷ []
unfolding steps_of_rounds round_steps ticked answered step_after run_from cast_answer arrive_answer tick_answer view drained frame_at head_at cast_at status_at request_at pairs_at pair_at number_at text_of spelling messages_of first_number last_number
not_stable_yet = refl

-- behind the third everything is stable
then_stable : stable_at (after_rounds three 3 (run three lost)) ≡ 2 ∷ 0 ∷ 1 ∷ []
unfolding steps_of_rounds round_steps ticked answered step_after run_from cast_answer arrive_answer tick_answer view drained frame_at head_at cast_at status_at request_at pairs_at pair_at number_at text_of spelling messages_of first_number last_number
then_stable = refl

-- and each member knows it of each sender
all_know_it : known_stable_at (after_rounds three 3 (run three lost)) ≡ (2 ∷ 0 ∷ 1 ∷ []) ∷ (2 ∷ 0 ∷ 1 ∷ []) ∷ (2 ∷ 0 ∷ 1 ∷ []) ∷ []
unfolding steps_of_rounds round_steps ticked answered step_after run_from cast_answer arrive_answer tick_answer view drained frame_at head_at cast_at status_at request_at pairs_at pair_at number_at text_of spelling messages_of first_number last_number
all_know_it = refl

-- and no round after it adds an entry
how_long_they_are : map (λ n. entries_at (after_rounds three n (run three lost))) (2 ∷ 3 ∷ 4 ∷ []) ≡ (5 ∷ 6 ∷ 5 ∷ []) ∷ (8 ∷ 9 ∷ 8 ∷ []) ∷ (8 ∷ 9 ∷ 8 ∷ []) ∷ []
unfolding steps_of_rounds round_steps ticked answered step_after run_from cast_answer arrive_answer tick_answer view drained frame_at head_at cast_at status_at request_at pairs_at pair_at number_at text_of spelling messages_of first_number last_number
how_long_they_are = refl

-- the second round has two waves: what is asked for comes in the second
how_many_steps : map (λ n. length (steps_of_rounds three n (run three lost))) (0 ∷ 1 ∷ 2 ∷ []) ≡ 0 ∷ 9 ∷ 28 ∷ []
unfolding steps_of_rounds round_steps ticked answered step_after run_from cast_answer arrive_answer tick_answer view drained frame_at head_at cast_at status_at request_at pairs_at pair_at number_at text_of spelling messages_of first_number last_number
how_many_steps = refl

how_many_outcomes : length (outcomes_of three (run three lost) (steps_of_rounds three 1 (run three lost))) ≡ 9
unfolding steps_of_rounds round_steps ticked answered step_after run_from cast_answer arrive_answer tick_answer view drained frame_at head_at cast_at status_at request_at pairs_at pair_at number_at text_of spelling messages_of first_number last_number
how_many_outcomes = refl

-- ---- a burst among them

-- member 0 casts a burst of three and one more, and member 2 once; nothing arrives
abbrev burst_lost : Schedule
burst_lost = CastStep 0 (Many ((97 ∷ []) ∷ (98 ∷ []) ∷ (99 ∷ []) ∷ [])) ∷ CastStep 0 (One (100 ∷ [])) ∷ CastStep 2 (One (101 ∷ [])) ∷ []

all_have_the_burst : counts_at (after_rounds three 2 (run three burst_lost)) ≡ (4 ∷ 0 ∷ 1 ∷ []) ∷ (4 ∷ 0 ∷ 1 ∷ []) ∷ (4 ∷ 0 ∷ 1 ∷ []) ∷ []
unfolding steps_of_rounds round_steps ticked answered step_after run_from cast_answer arrive_answer tick_answer view drained frame_at head_at cast_at burst_at payloads_at next_payload_at status_at request_at pairs_at pair_at number_at text_of spelling messages_of first_number last_number
all_have_the_burst = refl

then_it_is_stable : stable_at (after_rounds three 3 (run three burst_lost)) ≡ 4 ∷ 0 ∷ 1 ∷ []
unfolding steps_of_rounds round_steps ticked answered step_after run_from cast_answer arrive_answer tick_answer view drained frame_at head_at cast_at burst_at payloads_at next_payload_at status_at request_at pairs_at pair_at number_at text_of spelling messages_of first_number last_number
then_it_is_stable = refl

-- ---- one number more than an answer has frames

-- two members with a window of 65
abbrev wide : Setting
wide = record { group = record { number = 7; size = 2; window = 65 }; limit = 300 }

-- member 0 fills it, and all is lost
abbrev all_lost : Schedule
all_lost = map (λ k. CastStep 0 (One [])) (range_with_len 0 65)

-- behind two rounds one cast is still lacking: two would be too few
two_are_too_few : map (λ n. delivered (seat_at wide 1) (facts_at (after_rounds wide n (run wide all_lost)) 1) 0) (1 ∷ 2 ∷ 3 ∷ []) ≡ 0 ∷ 64 ∷ 65 ∷ []
unfolding steps_of_rounds round_steps ticked answered step_after run_from cast_answer arrive_answer tick_answer view drained frame_at head_at cast_at status_at request_at pairs_at pair_at number_at text_of spelling messages_of first_number last_number
two_are_too_few = refl

-- in three bursts they are three frames, and come at once
abbrev bursts_lost : Schedule
bursts_lost = map (λ n. CastStep 0 (Many (map (λ k. []) (range_with_len 0 n)))) (32 ∷ 32 ∷ 1 ∷ [])

bursts_are_few_frames : map (λ n. delivered (seat_at wide 1) (facts_at (after_rounds wide n (run wide bursts_lost)) 1) 0) (1 ∷ 2 ∷ []) ≡ 0 ∷ 65 ∷ []
unfolding steps_of_rounds round_steps ticked answered step_after run_from cast_answer arrive_answer tick_answer view drained frame_at head_at cast_at burst_at payloads_at next_payload_at status_at request_at pairs_at pair_at number_at text_of spelling messages_of first_number last_number
bursts_are_few_frames = refl

-- ---- how many rounds

-- two for a window of up to 64, five for the widest
how_many_rounds : map (λ w. rounds_to_deliver (record { group = record { number = 7; size = 2; window = w }; limit = 1 })) (1 ∷ 64 ∷ 65 ∷ 128 ∷ 129 ∷ 256 ∷ []) ≡ 2 ∷ 2 ∷ 3 ∷ 3 ∷ 4 ∷ 5 ∷ []
how_many_rounds = refl

-- ---- the laws speak of this example

the_setting : IsSetting three
the_setting = record {
  group = record {
    size = record { two_or_more = omega arith; at_most_sixty_four = omega arith };
    width = record { one_or_more = omega arith; at_most_widest = omega arith };
    number_fits = omega arith;
  };
  one_or_more = omega arith;
}

-- the casts and three rounds are 40 steps, so histories of 100 entries are never full
all_steps : length (lost ++ steps_of_rounds three 3 (run three lost)) ≡ 40
unfolding steps_of_rounds round_steps ticked answered step_after run_from cast_answer arrive_answer tick_answer view drained frame_at head_at cast_at status_at request_at pairs_at pair_at number_at text_of spelling messages_of first_number last_number
all_steps = refl

there_is_room : FindNoneFull three (run three lost) (steps_of_rounds three (rounds_to_be_stable three) (run three lost))
there_is_room =
    let rounds = steps_of_rounds three 3 (run three lost) in
    let steps = all_steps in
    from_none_full three (run three lost) rounds
    (none_full_splits three nothing_yet lost rounds (none_full_from three nothing_yet (lost ++ rounds) (room_enough three nothing_yet (lost ++ rounds) (λ k. omega (arith, steps))))).1

-- so by the laws everything is stable behind them, and no history changes any more
the_example_is_stable : EverythingIsStable three (after_rounds three (rounds_to_be_stable three) (run three lost))
the_example_is_stable = rounds_make_stable three lost the_setting there_is_room

and_stays_so : NothingChangesAnyMore three (after_rounds three (rounds_to_be_stable three) (run three lost))
and_stays_so = then_nothing_changes three lost the_setting there_is_room

-- ---- full histories

-- the same group with room for two entries each
abbrev full : Setting
full = record { group = record { number = 7; size = 3; window = 8 }; limit = 2 }

-- then member 0 can't even tell its status, the casts that come are refused, and no round repairs anything
nothing_is_repaired : map (λ j. map (λ i. delivered (seat_at full j) (facts_at (after_rounds full 4 (run full lost)) j) i) (0 ∷ 1 ∷ 2 ∷ [])) (0 ∷ 1 ∷ 2 ∷ [])
    ≡ (2 ∷ 0 ∷ 0 ∷ []) ∷ (0 ∷ 0 ∷ 0 ∷ []) ∷ (0 ∷ 0 ∷ 1 ∷ []) ∷ []
unfolding steps_of_rounds round_steps ticked answered step_after run_from cast_answer arrive_answer tick_answer view drained frame_at head_at cast_at status_at request_at pairs_at pair_at number_at text_of spelling messages_of first_number last_number
nothing_is_repaired = refl
