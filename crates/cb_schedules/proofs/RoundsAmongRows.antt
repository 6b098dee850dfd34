-- Worked rounds among two of four members, where the other two are silent.
use Rattle.std.proofs.Common.{◌≡◌, ℕ, List, [], ◌∷◌, map, refl}
use Rattle.cb_varint.specs.Reading.{number_at, spelling}
use Rattle.cb_frames.specs.Fields.{One, messages_of, first_number, last_number}
use Rattle.cb_frames.specs.Text.{text_of}
use Rattle.cb_frames.specs.Reading.{frame_at, head_at, cast_at, burst_at, payloads_at, next_payload_at, status_at, request_at, help_at, pairs_at, pair_at}
use Rattle.cb_history.specs.View.{view, drained}
use Rattle.cb_history.specs.Helping.{help_answer}
use Rattle.cb_history.specs.Answers.{delivered, cast_answer, arrive_answer, tick_answer}
use Rattle.cb_schedules.specs.Schedule.{Setting, seat_at, CastStep, ArriveStep, TickStep, Schedule, step_after, run_from, run}
use Rattle.cb_schedules.specs.Messages.{facts_at}
use Rattle.cb_schedules.specs.RoundLaws.{rounds_to_deliver}
use Rattle.cb_schedules.specs.HelpRounds.{help_rounds_by, help_round_by, in_waves, after_help_rounds}
use Rattle.cb_schedules.specs.RoundsAmong.{given_members, given_ticked, given_answered, given_supplied, round_among, rounds_among, after_rounds_among}

-- group 7 of four members with a window of 4, and room for 100 entries in each history
abbrev four : Setting
four = record { group = record { number = 7; size = 4; window = 4 }; limit = 100 }

-- Member 3 casts, members 0 and 2 deliver it, and member 1 hears so of member 0 alone. Then members 0 and 3 fall silent.
abbrev two_fallen : Schedule
two_fallen = CastStep 3 (One (97 ∷ [])) ∷ ArriveStep 0 0 ∷ ArriveStep 2 0 ∷ TickStep 0 ∷ ArriveStep 1 1 ∷ []

abbrev the_others : List ℕ
the_others = 1 ∷ 2 ∷ []

they_are : given_members 4 the_others ≡ 1 ∷ 2 ∷ []
they_are = refl

-- behind one round among members 1 and 2 both have it
one_round_brings_it : map (λ n. map (λ j. delivered (seat_at four j) (facts_at (after_rounds_among four the_others n (run four two_fallen)) j) 3) the_others) (0 ∷ 1 ∷ [])
    ≡ (0 ∷ 1 ∷ []) ∷ (1 ∷ 1 ∷ []) ∷ []
unfolding rounds_among round_among given_ticked given_answered given_supplied step_after run_from help_answer cast_answer arrive_answer tick_answer view drained frame_at head_at cast_at burst_at payloads_at next_payload_at status_at request_at help_at pairs_at pair_at number_at text_of spelling messages_of first_number last_number
one_round_brings_it = refl

-- what one of the two casts itself the other one asks for in the second round: one is too few, and two are claimed
abbrev own_cast : Schedule
own_cast = CastStep 2 (One (98 ∷ [])) ∷ []

one_is_too_few : map (λ n. map (λ j. delivered (seat_at four j) (facts_at (after_rounds_among four the_others n (run four own_cast)) j) 2) the_others) (0 ∷ 1 ∷ 2 ∷ [])
    ≡ (0 ∷ 1 ∷ []) ∷ (0 ∷ 1 ∷ []) ∷ (1 ∷ 1 ∷ []) ∷ []
unfolding rounds_among round_among given_ticked given_answered given_supplied step_after run_from help_answer cast_answer arrive_answer tick_answer view drained frame_at head_at cast_at burst_at payloads_at next_payload_at status_at request_at help_at pairs_at pair_at number_at text_of spelling messages_of first_number last_number
one_is_too_few = refl

-- ---- one helper alone

-- the same for five members
abbrev five : Setting
five = record { group = record { number = 7; size = 5; window = 4 }; limit = 100 }

-- Member 4 casts three times and falls silent. Member 1 has the first, member 2 the first two, and member 3 all three.
abbrev staircase : Schedule
staircase =
    CastStep 4 (One (97 ∷ [])) ∷ CastStep 4 (One (98 ∷ [])) ∷ CastStep 4 (One (99 ∷ []))
    ∷ ArriveStep 1 0 ∷ ArriveStep 2 0 ∷ ArriveStep 2 1 ∷ ArriveStep 3 0 ∷ ArriveStep 3 1 ∷ ArriveStep 3 2 ∷ []

-- where member 0 asks the first one that has what it lacks, it gets one in each round
one_helper_is_slow : map (λ n. delivered (seat_at five 0) (facts_at (after_help_rounds five 4 n (run five staircase)) 0) 4) (1 ∷ 2 ∷ 3 ∷ []) ≡ 1 ∷ 2 ∷ 3 ∷ []
unfolding help_rounds_by help_round_by in_waves step_after run_from help_answer cast_answer arrive_answer tick_answer view drained frame_at head_at cast_at burst_at payloads_at next_payload_at status_at request_at help_at pairs_at pair_at number_at text_of spelling messages_of first_number last_number
one_helper_is_slow = refl

-- where it asks each, it gets all in the first
each_helper_is_asked : map (λ n. delivered (seat_at five 0) (facts_at (after_rounds_among five (0 ∷ 1 ∷ 2 ∷ 3 ∷ []) n (run five staircase)) 0) 4) (0 ∷ 1 ∷ []) ≡ 0 ∷ 3 ∷ []
unfolding rounds_among round_among given_ticked given_answered given_supplied step_after run_from help_answer cast_answer arrive_answer tick_answer view drained frame_at head_at cast_at burst_at payloads_at next_payload_at status_at request_at help_at pairs_at pair_at number_at text_of spelling messages_of first_number last_number
each_helper_is_asked = refl

-- ---- how many rounds

-- two for a window of up to 64, and five for the widest
how_many_rounds : map (λ w. rounds_to_deliver (record { group = record { number = 7; size = 4; window = w }; limit = 1 })) (1 ∷ 64 ∷ 65 ∷ 256 ∷ []) ≡ 2 ∷ 2 ∷ 3 ∷ 5 ∷ []
how_many_rounds = refl
