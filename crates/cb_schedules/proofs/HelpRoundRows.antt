-- Worked rounds without the sender: what one member alone has got comes to all others.
use Rattle.std.proofs.Common.{◌≡◌, ℕ, List, [], ◌∷◌, ◌++◌, length, map, refl, arith}
use Rattle.cb_varint.specs.Reading.{number_at, spelling}
use Rattle.cb_frames.specs.Fields.{One, messages_of, first_number, last_number}
use Rattle.cb_frames.specs.Text.{text_of}
use Rattle.cb_frames.specs.Reading.{frame_at, head_at, cast_at, burst_at, payloads_at, next_payload_at, status_at, request_at, help_at, pairs_at, pair_at}
use Rattle.cb_history.specs.View.{view, drained}
use Rattle.cb_history.specs.Helping.{help_answer}
use Rattle.cb_history.specs.Answers.{delivered, cast_answer, arrive_answer, tick_answer}
use Rattle.cb_schedules.specs.Schedule.{Setting, IsSetting, nothing_yet, seat_at, CastStep, ArriveStep, TickStep, HelpStep, Schedule, GroupState, step_after, run_from, run}
use Rattle.cb_schedules.specs.Messages.{facts_at}
use Rattle.cb_schedules.specs.Rounds.{FindNoneFull}
use Rattle.cb_schedules.specs.HelpRounds.{others_tick, others_ask, in_waves, help_round_by, help_rounds_by, help_rounds, after_help_rounds}
use Rattle.cb_schedules.specs.HelpRoundLaws.{OthersHaveTheSame, rounds_without}
use Rattle.cb_schedules.proofs.Happening.{none_full_from, from_none_full}
use Rattle.cb_schedules.proofs.Waves.{none_full_splits}
use Rattle.cb_schedules.proofs.Room.{room_enough}
use Rattle.cb_schedules.proofs.HelpRoundLaws.{others_have_the_same}

-- group 7 of four members with a window of 1, and room for 100 entries in each history
abbrev four : Setting
four = record { group = record { number = 7; size = 4; window = 1 }; limit = 100 }

-- the cast of member 0 reaches member 1 alone; that one casts behind it, reaches member 2 alone, and falls silent
abbrev fallen : Schedule
fallen = CastStep 0 (One (97 ∷ [])) ∷ ArriveStep 1 0 ∷ CastStep 1 (One (98 ∷ [])) ∷ ArriveStep 2 1 ∷ []

-- how many messages of members 0 and 1 each of the others has delivered
abbrev counts_at : GroupState → List (List ℕ)
counts_at s = map (λ j. map (λ i. delivered (seat_at four j) (facts_at s j) i) (0 ∷ 1 ∷ [])) (0 ∷ 2 ∷ 3 ∷ [])

the_others_tick : others_tick 4 1 ≡ TickStep 0 ∷ TickStep 2 ∷ TickStep 3 ∷ []
the_others_tick = refl

each_asks_for_each : others_ask 4 1
    ≡ HelpStep 0 1 ∷ HelpStep 0 2 ∷ HelpStep 0 3 ∷ HelpStep 2 0 ∷ HelpStep 2 1 ∷ HelpStep 2 3 ∷ HelpStep 3 0 ∷ HelpStep 3 1 ∷ HelpStep 3 2 ∷ []
each_asks_for_each = refl

-- at first nobody of the others has delivered it, behind one round member 2 alone, and behind two all: one would be too few
one_is_too_few : map (λ n. counts_at (after_help_rounds four 1 n (run four fallen))) (0 ∷ 1 ∷ 2 ∷ [])
    ≡ ((1 ∷ 0 ∷ []) ∷ (0 ∷ 0 ∷ []) ∷ (0 ∷ 0 ∷ []) ∷ [])
    ∷ ((1 ∷ 0 ∷ []) ∷ (1 ∷ 1 ∷ []) ∷ (0 ∷ 0 ∷ []) ∷ [])
    ∷ ((1 ∷ 1 ∷ []) ∷ (1 ∷ 1 ∷ []) ∷ (1 ∷ 1 ∷ []) ∷ []) ∷ []
unfolding help_rounds_by help_round_by in_waves step_after run_from help_answer cast_answer arrive_answer tick_answer view drained frame_at head_at cast_at burst_at payloads_at next_payload_at status_at request_at help_at pairs_at pair_at number_at text_of spelling messages_of first_number last_number
one_is_too_few = refl

-- ---- two casts that two members have got

-- the same with a window of 2
abbrev wider : Setting
wider = record { group = record { number = 7; size = 4; window = 2 }; limit = 100 }

-- member 1 casts twice behind what it alone has got; the first reaches member 2 alone and the second member 3 alone
abbrev scattered : Schedule
scattered = CastStep 0 (One (97 ∷ [])) ∷ ArriveStep 1 0 ∷ CastStep 1 (One (98 ∷ [])) ∷ CastStep 1 (One (99 ∷ [])) ∷ ArriveStep 2 1 ∷ ArriveStep 3 2 ∷ []

-- behind the first round member 2 alone has the first one, behind the second all have it and member 3 the second: two are too few
two_are_too_few : map (λ n. map (λ j. delivered (seat_at wider j) (facts_at (after_help_rounds wider 1 n (run wider scattered)) j) 1) (0 ∷ 2 ∷ 3 ∷ [])) (1 ∷ 2 ∷ 3 ∷ [])
    ≡ (0 ∷ 1 ∷ 0 ∷ []) ∷ (1 ∷ 1 ∷ 2 ∷ []) ∷ (2 ∷ 2 ∷ 2 ∷ []) ∷ []
unfolding help_rounds_by help_round_by in_waves step_after run_from help_answer cast_answer arrive_answer tick_answer view drained frame_at head_at cast_at burst_at payloads_at next_payload_at status_at request_at help_at pairs_at pair_at number_at text_of spelling messages_of first_number last_number
two_are_too_few = refl

-- ---- how many rounds

-- two for the narrowest window, one more than the window up to 64, and four more for the widest
how_many_rounds : map (λ w. rounds_without (record { group = record { number = 7; size = 4; window = w }; limit = 1 })) (1 ∷ 2 ∷ 64 ∷ 65 ∷ 256 ∷ []) ≡ 2 ∷ 3 ∷ 65 ∷ 67 ∷ 260 ∷ []
how_many_rounds = refl

-- ---- the law speaks of this example

the_setting : IsSetting four
the_setting = record {
  group = record {
    size = record { two_or_more = omega arith; at_most_sixty_four = omega arith };
    width = record { one_or_more = omega arith; at_most_widest = omega arith };
    number_fits = omega arith;
  };
  one_or_more = omega arith;
}

all_steps : length (fallen ++ help_rounds four 1 2 (run four fallen)) ≡ 48
unfolding help_rounds_by help_round_by in_waves step_after run_from help_answer cast_answer arrive_answer tick_answer view drained frame_at head_at cast_at burst_at payloads_at next_payload_at status_at request_at help_at pairs_at pair_at number_at text_of spelling messages_of first_number last_number
all_steps = refl

there_is_room : FindNoneFull four (run four fallen) (help_rounds four 1 (rounds_without four) (run four fallen))
there_is_room =
    let rounds = help_rounds four 1 2 (run four fallen) in
    let steps = all_steps in
    from_none_full four (run four fallen) rounds
    (none_full_splits four nothing_yet fallen rounds (none_full_from four nothing_yet (fallen ++ rounds) (room_enough four nothing_yet (fallen ++ rounds) (λ k. omega (arith, steps))))).1

-- so by the law the others have the same
the_others_have_the_same : OthersHaveTheSame four 1 (after_help_rounds four 1 (rounds_without four) (run four fallen))
the_others_have_the_same = others_have_the_same four 1 fallen the_setting (omega arith) there_is_room
