-- Worked schedules of help: a third member hands on what the sender, who is gone, sent once.
use Rattle.std.proofs.Common.{◌≡◌, ℕ, List, [], ◌∷◌, length, map, drop, option_map, Some, None, Ok, Err, refl}
use Rattle.std.specs.Prelude.{slice_get}
use Rattle.cb_varint.specs.Reading.{number_at, spelling}
use Rattle.cb_frames.specs.Fields.{One, CastFrame, messages_of, first_number, last_number}
use Rattle.cb_frames.specs.Text.{text_of}
use Rattle.cb_frames.specs.Reading.{frame_at, head_at, cast_at, burst_at, payloads_at, next_payload_at, status_at, request_at, help_at, pairs_at, pair_at}
use Rattle.cb_history.specs.declared.answer.HelpFault.TheVariants as helps
use Rattle.cb_history.specs.View.{view, drained}
use Rattle.cb_history.specs.Helping.{handed_on, help_answer}
use Rattle.cb_history.specs.Answers.{delivered, cast_answer, arrive_answer, tick_answer}
use Rattle.cb_schedules.specs.Schedule.{Setting, seat_at, CastStep, ArriveStep, TickStep, HelpStep, Schedule, SentFrame, Answer, HelpAnswer, NoSuchMember, GroupState, step_after, run_from, run}
use Rattle.cb_schedules.specs.Messages.{facts_at}

-- group 7 of three members with a window of 4, and room for 100 entries in each history
abbrev three : Setting
three = record { group = record { number = 7; size = 3; window = 4 }; limit = 100 }

abbrev last_answer : ℕ → GroupState → List Answer
last_answer n s = map (λ o. o.answer) (drop n s.outcomes)

-- ---- member 0 casts "a", which member 1 alone gets, and is never heard of again

-- member 1 tells its status, and member 2 hears by it of the cast and of who has it
abbrev heard : Schedule
heard = CastStep 0 (One (97 ∷ [])) ∷ ArriveStep 1 0 ∷ TickStep 1 ∷ ArriveStep 2 1 ∷ []

-- it asks member 1
abbrev asked : Schedule
asked = CastStep 0 (One (97 ∷ [])) ∷ ArriveStep 1 0 ∷ TickStep 1 ∷ ArriveStep 2 1 ∷ HelpStep 2 0 ∷ []

-- which hands the cast on
abbrev helped : Schedule
helped = CastStep 0 (One (97 ∷ [])) ∷ ArriveStep 1 0 ∷ TickStep 1 ∷ ArriveStep 2 1 ∷ HelpStep 2 0 ∷ ArriveStep 1 2 ∷ ArriveStep 2 3 ∷ []

-- and tells that it has it
abbrev told : Schedule
told = CastStep 0 (One (97 ∷ [])) ∷ ArriveStep 1 0 ∷ TickStep 1 ∷ ArriveStep 2 1 ∷ HelpStep 2 0 ∷ ArriveStep 1 2 ∷ ArriveStep 2 3 ∷ TickStep 2 ∷ ArriveStep 1 4 ∷ []

-- the frame of "a", and the help frame to member 1
abbrev a : List ℕ
a = 17 ∷ 7 ∷ 0 ∷ 1 ∷ 0 ∷ 1 ∷ 97 ∷ []

abbrev help : List ℕ
help = 35 ∷ 7 ∷ 2 ∷ 1 ∷ 0 ∷ 1 ∷ 0 ∷ 0 ∷ []

the_third_lacks_it : delivered (seat_at three 2) (facts_at (run three heard) 2) 0 ≡ 0
unfolding step_after run_from help_answer cast_answer arrive_answer tick_answer view drained frame_at head_at cast_at burst_at payloads_at next_payload_at status_at request_at help_at pairs_at pair_at number_at text_of spelling messages_of first_number last_number
the_third_lacks_it = refl

the_second_keeps_it : map (λ c. text_of (CastFrame c)) (handed_on (seat_at three 1) (facts_at (run three heard) 1) 0) ≡ a ∷ []
unfolding step_after run_from help_answer cast_answer arrive_answer tick_answer view drained frame_at head_at cast_at burst_at payloads_at next_payload_at status_at request_at help_at pairs_at pair_at number_at text_of spelling messages_of first_number last_number
the_second_keeps_it = refl

the_help_frame_is_sent : slice_get (run three helped).sent 2 ≡ Some (record { from = 2; to = Some 1; bytes = help })
unfolding step_after run_from help_answer cast_answer arrive_answer tick_answer view drained frame_at head_at cast_at burst_at payloads_at next_payload_at status_at request_at help_at pairs_at pair_at number_at text_of spelling messages_of first_number last_number
the_help_frame_is_sent = refl

it_adds_no_entry : map (λ j. length ((run three asked).histories j)) (0 ∷ 1 ∷ 2 ∷ []) ≡ map (λ j. length ((run three heard).histories j)) (0 ∷ 1 ∷ 2 ∷ [])
unfolding step_after run_from help_answer cast_answer arrive_answer tick_answer view drained frame_at head_at cast_at burst_at payloads_at next_payload_at status_at request_at help_at pairs_at pair_at number_at text_of spelling messages_of first_number last_number
it_adds_no_entry = refl

-- by member 1 and to member 2 alone, with the bytes of the first frame
the_cast_is_handed_on : drop 3 (run three helped).sent ≡ record { from = 1; to = Some 2; bytes = a } ∷ []
unfolding step_after run_from help_answer cast_answer arrive_answer tick_answer view drained frame_at head_at cast_at burst_at payloads_at next_payload_at status_at request_at help_at pairs_at pair_at number_at text_of spelling messages_of first_number last_number
the_cast_is_handed_on = refl

by_the_sender_as_it_was : option_map (λ (f : SentFrame). f.bytes) (slice_get (run three helped).sent 0) ≡ Some a
unfolding step_after run_from help_answer cast_answer arrive_answer tick_answer view drained frame_at head_at cast_at burst_at payloads_at next_payload_at status_at request_at help_at pairs_at pair_at number_at text_of spelling messages_of first_number last_number
by_the_sender_as_it_was = refl

now_the_third_has_it : delivered (seat_at three 2) (facts_at (run three helped) 2) 0 ≡ 1
unfolding step_after run_from help_answer cast_answer arrive_answer tick_answer view drained frame_at head_at cast_at burst_at payloads_at next_payload_at status_at request_at help_at pairs_at pair_at number_at text_of spelling messages_of first_number last_number
now_the_third_has_it = refl

-- nothing of it is lacked any more, and nothing is kept
then_it_is_forgotten : handed_on (seat_at three 1) (facts_at (run three told) 1) 0 ≡ []
unfolding step_after run_from help_answer cast_answer arrive_answer tick_answer view drained frame_at head_at cast_at burst_at payloads_at next_payload_at status_at request_at help_at pairs_at pair_at number_at text_of spelling messages_of first_number last_number
then_it_is_forgotten = refl

-- ---- who is asked for what

-- nobody is known to have what nobody has heard of
who_has_heard_of_nothing_asks_nobody : last_answer 1 (run three (CastStep 0 (One (97 ∷ [])) ∷ HelpStep 2 0 ∷ [])) ≡ HelpAnswer (Ok None) ∷ []
unfolding step_after run_from help_answer cast_answer arrive_answer tick_answer view drained frame_at head_at cast_at burst_at payloads_at next_payload_at status_at request_at help_at pairs_at pair_at number_at text_of spelling messages_of first_number last_number
who_has_heard_of_nothing_asks_nobody = refl

nobody_asks_for_its_own : last_answer 1 (run three (CastStep 0 (One (97 ∷ [])) ∷ HelpStep 0 0 ∷ HelpStep 2 3 ∷ HelpStep 3 0 ∷ [])) ≡ HelpAnswer (Err helps.BadMember) ∷ HelpAnswer (Err helps.BadMember) ∷ NoSuchMember ∷ []
unfolding step_after run_from help_answer cast_answer arrive_answer tick_answer view drained frame_at head_at cast_at burst_at payloads_at next_payload_at status_at request_at help_at pairs_at pair_at number_at text_of spelling messages_of first_number last_number
nobody_asks_for_its_own = refl
