-- Worked schedules of three members.
use Rattle.std.proofs.Common.{◌≡◌, ℕ, true, false, List, [], ◌∷◌, length, map, take, drop, option_map, Some, None, Ok, Err, refl, arith}
use Rattle.std.specs.Prelude.{slice_get}
use Rattle.std.specs.List.{range_with_len}
use Rattle.cb_varint.specs.Reading.{number_at, spelling}
use Rattle.cb_times.specs.declared.name.Name.{Name}
use Rattle.cb_frames.specs.Fields.{One, Many, messages_of, first_number, last_number}
use Rattle.cb_frames.specs.Text.{text_of}
use Rattle.cb_frames.specs.Reading.{frame_at, head_at, cast_at, burst_at, payloads_at, next_payload_at, status_at, request_at, pairs_at, pair_at}
use Rattle.cb_delay.specs.declared.message.Message.{Message}
use Rattle.cb_delay.specs.declared.message.Event.TheVariants.{Cast, Deliver}
use Rattle.cb_causality.specs.declared.event.CausalEvent.TheVariants as causal
use Rattle.cb_history.specs.declared.answer.ArriveRefusal.TheVariants as arrivals
use Rattle.cb_history.specs.CastFault.{EmptyBurst, BurstTooLong, WindowFull}
use Rattle.cb_history.specs.View.{view, drained, time_of}
use Rattle.cb_history.specs.Known.{known, stable_of, stable}
use Rattle.cb_history.specs.Answers.{delivered, cast_answer, arrive_answer, tick_answer, Accepted, Repeat}
use Rattle.cb_schedules.specs.Schedule.{Setting, IsSetting, seat_at, CastStep, ArriveStep, TickStep, Schedule, Answer, CastAnswer, ArrivalAnswer, NoSuchMember, NoSuchFrame, NoBytes, GroupState, asked_by, step_after, run_from, run}
use Rattle.cb_schedules.specs.RunLaws.{AsksForNothing}
use Rattle.cb_schedules.specs.Messages.{facts_at, stamped_lists, causal_lists, arrived_at, has_arrived, IsClosedArrival, time_from_bytes}
use Rattle.cb_schedules.specs.Headline.{Headline}
use Rattle.cb_schedules.proofs.Headlines.{each_schedule, headline_holds}

-- group 7 of three members with a window of 4, and room for 100 entries in each history
abbrev three : Setting
three = record { group = record { number = 7; size = 3; window = 4 }; limit = 100 }

abbrev name : ℕ → ℕ → Name
name sender number = record { sender = sender; number = number }

abbrev message : ℕ → ℕ → List ℕ → List ℕ → Message
message sender number time payload = record { name = name sender number; time = time; payload = payload }

abbrev answers : GroupState → List Answer
answers s = map (λ o. o.answer) s.outcomes

-- ---- an answer that overtakes its question

-- member 0 casts "hi", member 1 takes it and casts "yo"; at member 2 first "yo" arrives
abbrev overtaking : Schedule
overtaking = CastStep 0 (One (104 ∷ 105 ∷ [])) ∷ ArriveStep 1 0 ∷ CastStep 1 (One (121 ∷ 111 ∷ [])) ∷ ArriveStep 2 1 ∷ []

-- and then "hi"
abbrev in_the_end : Schedule
in_the_end = CastStep 0 (One (104 ∷ 105 ∷ [])) ∷ ArriveStep 1 0 ∷ CastStep 1 (One (121 ∷ 111 ∷ [])) ∷ ArriveStep 2 1 ∷ ArriveStep 2 0 ∷ []

abbrev the_hi : Message
the_hi = message 0 1 (1 ∷ 0 ∷ 0 ∷ []) (104 ∷ 105 ∷ [])

abbrev the_yo : Message
the_yo = message 1 1 (1 ∷ 1 ∷ 0 ∷ []) (121 ∷ 111 ∷ [])

the_answer_waits : stamped_lists three (run three overtaking) 2 ≡ []
unfolding step_after run_from cast_answer arrive_answer tick_answer view drained frame_at head_at cast_at status_at request_at pairs_at pair_at number_at text_of spelling messages_of first_number last_number
the_answer_waits = refl

but_it_has_arrived : has_arrived (run three overtaking) 2 (name 1 1) ≡ true
unfolding step_after run_from cast_answer arrive_answer tick_answer view drained frame_at head_at cast_at status_at request_at pairs_at pair_at number_at text_of spelling messages_of first_number last_number
but_it_has_arrived = refl

its_question_has_not : has_arrived (run three overtaking) 2 (name 0 1) ≡ false
unfolding step_after run_from cast_answer arrive_answer tick_answer view drained frame_at head_at cast_at status_at request_at pairs_at pair_at number_at text_of spelling messages_of first_number last_number
its_question_has_not = refl

then_both_are_delivered : stamped_lists three (run three in_the_end) 2 ≡ Deliver the_hi ∷ Deliver the_yo ∷ []
unfolding step_after run_from cast_answer arrive_answer tick_answer view drained frame_at head_at cast_at status_at request_at pairs_at pair_at number_at text_of spelling messages_of first_number last_number
then_both_are_delivered = refl

without_times : causal_lists three (run three in_the_end) 1 ≡ causal.Deliver (name 0 1) (104 ∷ 105 ∷ []) ∷ causal.Cast (name 1 1) (121 ∷ 111 ∷ []) ∷ []
unfolding step_after run_from cast_answer arrive_answer tick_answer view drained frame_at head_at cast_at status_at request_at pairs_at pair_at number_at text_of spelling messages_of first_number last_number
without_times = refl

the_question_is_before : time_from_bytes three (run three in_the_end) (name 0 1) ≡ 1 ∷ 0 ∷ 0 ∷ []
unfolding step_after run_from cast_answer arrive_answer tick_answer view drained frame_at head_at cast_at status_at request_at pairs_at pair_at number_at text_of spelling messages_of first_number last_number
the_question_is_before = refl

its_answer : time_from_bytes three (run three in_the_end) (name 1 1) ≡ 1 ∷ 1 ∷ 0 ∷ []
unfolding step_after run_from cast_answer arrive_answer tick_answer view drained frame_at head_at cast_at status_at request_at pairs_at pair_at number_at text_of spelling messages_of first_number last_number
its_answer = refl

the_frames_that_were_sent : map (λ f. f.bytes) (run three in_the_end).sent
    ≡ (17 ∷ 7 ∷ 0 ∷ 1 ∷ 0 ∷ 2 ∷ 104 ∷ 105 ∷ []) ∷ (17 ∷ 7 ∷ 1 ∷ 1 ∷ 1 ∷ 0 ∷ 1 ∷ 2 ∷ 121 ∷ 111 ∷ []) ∷ []
unfolding step_after run_from cast_answer arrive_answer tick_answer view drained frame_at head_at cast_at status_at request_at pairs_at pair_at number_at text_of spelling messages_of first_number last_number
the_frames_that_were_sent = refl

-- the number of the first frame that each step sent, and how many these were
and_by_which_steps : map (λ o. o.first ∷ o.count ∷ []) (run three in_the_end).outcomes
    ≡ (0 ∷ 1 ∷ []) ∷ (1 ∷ 0 ∷ []) ∷ (1 ∷ 1 ∷ []) ∷ (2 ∷ 0 ∷ []) ∷ (2 ∷ 0 ∷ []) ∷ []
unfolding step_after run_from cast_answer arrive_answer tick_answer view drained frame_at head_at cast_at status_at request_at pairs_at pair_at number_at text_of spelling messages_of first_number last_number
and_by_which_steps = refl

how_long_the_histories_are : map (λ k. length ((run three in_the_end).histories k)) (0 ∷ 1 ∷ 2 ∷ []) ≡ 1 ∷ 2 ∷ 2 ∷ []
unfolding step_after run_from cast_answer arrive_answer tick_answer view drained frame_at head_at cast_at status_at request_at pairs_at pair_at number_at text_of spelling messages_of first_number last_number
how_long_the_histories_are = refl

nothing_is_stable_yet : map (λ k. stable (seat_at three k) (facts_at (run three in_the_end) k)) (0 ∷ 1 ∷ 2 ∷ []) ≡ 0 ∷ 0 ∷ 0 ∷ []
unfolding step_after run_from cast_answer arrive_answer tick_answer view drained frame_at head_at cast_at status_at request_at pairs_at pair_at number_at text_of spelling messages_of first_number last_number
nothing_is_stable_yet = refl

-- ---- a loss, a request that is answered, and a repeat

-- Of two casts of member 0 the first is lost to member 1. Its tick asks for it; the request arrives at member 0, whose answer arrives twice.
abbrev losing : Schedule
losing =
    CastStep 0 (One (97 ∷ [])) ∷ CastStep 0 (One (98 ∷ [])) ∷ ArriveStep 1 1 ∷ TickStep 1 ∷ ArriveStep 0 3 ∷ ArriveStep 1 4 ∷ ArriveStep 1 4 ∷ []

what_was_sent : (run three losing).sent
    ≡ record { from = 0; to = None; bytes = 17 ∷ 7 ∷ 0 ∷ 1 ∷ 0 ∷ 1 ∷ 97 ∷ [] }
    ∷ record { from = 0; to = None; bytes = 17 ∷ 7 ∷ 0 ∷ 2 ∷ 0 ∷ 1 ∷ 98 ∷ [] }
    ∷ record { from = 1; to = None; bytes = 18 ∷ 7 ∷ 1 ∷ 0 ∷ [] }
    ∷ record { from = 1; to = Some 0; bytes = 19 ∷ 7 ∷ 1 ∷ 0 ∷ 1 ∷ 0 ∷ 0 ∷ [] }
    ∷ record { from = 0; to = Some 1; bytes = 17 ∷ 7 ∷ 0 ∷ 1 ∷ 0 ∷ 1 ∷ 97 ∷ [] }
    ∷ []
unfolding step_after run_from cast_answer arrive_answer tick_answer view drained frame_at head_at cast_at status_at request_at pairs_at pair_at number_at text_of spelling messages_of first_number last_number
what_was_sent = refl

what_is_delivered_late : stamped_lists three (run three losing) 1
    ≡ Deliver (message 0 1 (1 ∷ 0 ∷ 0 ∷ []) (97 ∷ [])) ∷ Deliver (message 0 2 (2 ∷ 0 ∷ 0 ∷ []) (98 ∷ [])) ∷ []
unfolding step_after run_from cast_answer arrive_answer tick_answer view drained frame_at head_at cast_at status_at request_at pairs_at pair_at number_at text_of spelling messages_of first_number last_number
what_is_delivered_late = refl

what_arrived_with_repeats : map (λ m. m.number) (arrived_at (run three losing) 1) ≡ 2 ∷ 1 ∷ 1 ∷ []
unfolding step_after run_from cast_answer arrive_answer tick_answer view drained frame_at head_at cast_at status_at request_at pairs_at pair_at number_at text_of spelling messages_of first_number last_number
what_arrived_with_repeats = refl

-- a frame that was sent twice counts once
the_time_of_the_second : time_from_bytes three (run three losing) (name 0 2) ≡ 2 ∷ 0 ∷ 0 ∷ []
unfolding step_after run_from cast_answer arrive_answer tick_answer view drained frame_at head_at cast_at status_at request_at pairs_at pair_at number_at text_of spelling messages_of first_number last_number
the_time_of_the_second = refl

-- the frame that was sent again has the bytes that were sent first
sent_again_byte_for_byte : option_map (λ f. f.bytes) (slice_get (run three losing).sent 4) ≡ option_map (λ f. f.bytes) (slice_get (run three losing).sent 0)
unfolding step_after run_from cast_answer arrive_answer tick_answer view drained frame_at head_at cast_at status_at request_at pairs_at pair_at number_at text_of spelling messages_of first_number last_number
sent_again_byte_for_byte = refl

-- member 1 has heard of both casts, of which member 0 made two
what_is_heard_of : known (facts_at (run three losing) 1) 0 ≡ 2
unfolding step_after run_from cast_answer arrive_answer tick_answer view drained frame_at head_at cast_at status_at request_at pairs_at pair_at number_at text_of spelling messages_of first_number last_number
what_is_heard_of = refl

what_was_cast : delivered (seat_at three 0) (facts_at (run three losing) 0) 0 ≡ 2
unfolding step_after run_from cast_answer arrive_answer tick_answer view drained frame_at head_at cast_at status_at request_at pairs_at pair_at number_at text_of spelling messages_of first_number last_number
what_was_cast = refl

-- ---- steps that name nothing

abbrev naming_nothing : Schedule
naming_nothing = CastStep 3 (One []) ∷ ArriveStep 1 0 ∷ ArriveStep 3 0 ∷ TickStep 9 ∷ CastStep 0 (One (256 ∷ [])) ∷ []

they_ask_for_nothing : AsksForNothing (asked_by three [] (CastStep 3 (One []))) × AsksForNothing (asked_by three [] (ArriveStep 1 0)) × AsksForNothing (asked_by three [] (CastStep 0 (One (256 ∷ []))))
they_ask_for_nothing = (tt, tt, tt)

they_say_so : answers (run three naming_nothing) ≡ NoSuchMember ∷ NoSuchFrame ∷ NoSuchMember ∷ NoSuchMember ∷ NoBytes ∷ []
unfolding step_after run_from cast_answer arrive_answer tick_answer view drained frame_at head_at cast_at status_at request_at pairs_at pair_at number_at text_of spelling messages_of first_number last_number
they_say_so = refl

they_send_nothing : (run three naming_nothing).sent ≡ []
unfolding step_after run_from cast_answer arrive_answer tick_answer view drained frame_at head_at cast_at status_at request_at pairs_at pair_at number_at text_of spelling messages_of first_number last_number
they_send_nothing = refl

they_change_nothing : (run three naming_nothing).histories 0 ≡ []
unfolding step_after run_from cast_answer arrive_answer tick_answer view drained frame_at head_at cast_at status_at request_at pairs_at pair_at number_at text_of spelling messages_of first_number last_number
they_change_nothing = refl

-- ---- bursts

-- member 0 casts "hi" and "yo" at once, member 1 takes them and casts "a" and "b" at once; at member 2 first "a" and "b" arrive
abbrev burst_first : Schedule
burst_first = CastStep 0 (Many ((104 ∷ 105 ∷ []) ∷ (121 ∷ 111 ∷ []) ∷ [])) ∷ ArriveStep 1 0 ∷ CastStep 1 (Many ((97 ∷ []) ∷ (98 ∷ []) ∷ [])) ∷ ArriveStep 2 1 ∷ []

-- and then "hi" and "yo"
abbrev then_its_cause : Schedule
then_its_cause =
    CastStep 0 (Many ((104 ∷ 105 ∷ []) ∷ (121 ∷ 111 ∷ []) ∷ [])) ∷ ArriveStep 1 0 ∷ CastStep 1 (Many ((97 ∷ []) ∷ (98 ∷ []) ∷ [])) ∷ ArriveStep 2 1 ∷ ArriveStep 2 0 ∷ []

-- a frame for each, in which the second one says once that both messages of the first are before its own
bursts_that_were_sent : map (λ f. f.bytes) (run three then_its_cause).sent
    ≡ (33 ∷ 7 ∷ 0 ∷ 1 ∷ 0 ∷ 2 ∷ 2 ∷ 104 ∷ 105 ∷ 2 ∷ 121 ∷ 111 ∷ []) ∷ (33 ∷ 7 ∷ 1 ∷ 1 ∷ 1 ∷ 0 ∷ 2 ∷ 2 ∷ 1 ∷ 97 ∷ 1 ∷ 98 ∷ []) ∷ []
unfolding step_after run_from cast_answer arrive_answer tick_answer view drained frame_at head_at cast_at burst_at payloads_at next_payload_at status_at request_at pairs_at pair_at number_at text_of spelling messages_of first_number last_number
bursts_that_were_sent = refl

a_burst_is_a_cast_of_each : stamped_lists three (run three then_its_cause) 0 ≡ Cast (message 0 1 (1 ∷ 0 ∷ 0 ∷ []) (104 ∷ 105 ∷ [])) ∷ Cast (message 0 2 (2 ∷ 0 ∷ 0 ∷ []) (121 ∷ 111 ∷ [])) ∷ []
unfolding step_after run_from cast_answer arrive_answer tick_answer view drained frame_at head_at cast_at burst_at payloads_at next_payload_at status_at request_at pairs_at pair_at number_at text_of spelling messages_of first_number last_number
a_burst_is_a_cast_of_each = refl

the_burst_waits : stamped_lists three (run three burst_first) 2 ≡ []
unfolding step_after run_from cast_answer arrive_answer tick_answer view drained frame_at head_at cast_at burst_at payloads_at next_payload_at status_at request_at pairs_at pair_at number_at text_of spelling messages_of first_number last_number
the_burst_waits = refl

but_all_of_it_has_arrived : map (λ m. m.number) (arrived_at (run three burst_first) 2) ≡ 1 ∷ 2 ∷ []
unfolding step_after run_from cast_answer arrive_answer tick_answer view drained frame_at head_at cast_at burst_at payloads_at next_payload_at status_at request_at pairs_at pair_at number_at text_of spelling messages_of first_number last_number
but_all_of_it_has_arrived = refl

then_all_are_delivered : stamped_lists three (run three then_its_cause) 2
    ≡ Deliver (message 0 1 (1 ∷ 0 ∷ 0 ∷ []) (104 ∷ 105 ∷ []))
    ∷ Deliver (message 0 2 (2 ∷ 0 ∷ 0 ∷ []) (121 ∷ 111 ∷ []))
    ∷ Deliver (message 1 1 (2 ∷ 1 ∷ 0 ∷ []) (97 ∷ []))
    ∷ Deliver (message 1 2 (2 ∷ 2 ∷ 0 ∷ []) (98 ∷ []))
    ∷ []
unfolding step_after run_from cast_answer arrive_answer tick_answer view drained frame_at head_at cast_at burst_at payloads_at next_payload_at status_at request_at pairs_at pair_at number_at text_of spelling messages_of first_number last_number
then_all_are_delivered = refl

the_time_in_the_end : time_of 3 (facts_at (run three then_its_cause) 2) ≡ 2 ∷ 2 ∷ 0 ∷ []
unfolding step_after run_from cast_answer arrive_answer tick_answer view drained frame_at head_at cast_at burst_at payloads_at next_payload_at status_at request_at pairs_at pair_at number_at text_of spelling messages_of first_number last_number
the_time_in_the_end = refl

an_entry_for_each_burst : map (λ k. length ((run three then_its_cause).histories k)) (0 ∷ 1 ∷ 2 ∷ []) ≡ 1 ∷ 2 ∷ 2 ∷ []
unfolding step_after run_from cast_answer arrive_answer tick_answer view drained frame_at head_at cast_at burst_at payloads_at next_payload_at status_at request_at pairs_at pair_at number_at text_of spelling messages_of first_number last_number
an_entry_for_each_burst = refl

-- the time of a message inside a burst, from the bytes
the_time_inside : time_from_bytes three (run three then_its_cause) (name 1 2) ≡ 2 ∷ 2 ∷ 0 ∷ []
unfolding step_after run_from cast_answer arrive_answer tick_answer view drained frame_at head_at cast_at burst_at payloads_at next_payload_at status_at request_at pairs_at pair_at number_at text_of spelling messages_of first_number last_number
the_time_inside = refl

-- both bursts once more at member 2, and one cast more of member 1
abbrev and_on : Schedule
and_on =
    CastStep 0 (Many ((104 ∷ 105 ∷ []) ∷ (121 ∷ 111 ∷ []) ∷ [])) ∷ ArriveStep 1 0 ∷ CastStep 1 (Many ((97 ∷ []) ∷ (98 ∷ []) ∷ []))
    ∷ ArriveStep 2 1 ∷ ArriveStep 2 0 ∷ ArriveStep 2 0 ∷ ArriveStep 2 1 ∷ CastStep 1 (One (99 ∷ [])) ∷ []

both_are_repeats : take 2 (drop 5 (answers (run three and_on))) ≡ ArrivalAnswer (Ok Repeat) ∷ ArrivalAnswer (Ok Repeat) ∷ []
unfolding step_after run_from cast_answer arrive_answer tick_answer view drained frame_at head_at cast_at burst_at payloads_at next_payload_at status_at request_at pairs_at pair_at number_at text_of spelling messages_of first_number last_number
both_are_repeats = refl

-- which says nothing new of member 0
the_next_cast : drop 2 (map (λ f. f.bytes) (run three and_on).sent) ≡ (17 ∷ 7 ∷ 1 ∷ 3 ∷ 0 ∷ 1 ∷ 99 ∷ []) ∷ []
unfolding step_after run_from cast_answer arrive_answer tick_answer view drained frame_at head_at cast_at burst_at payloads_at next_payload_at status_at request_at pairs_at pair_at number_at text_of spelling messages_of first_number last_number
the_next_cast = refl

its_time : time_from_bytes three (run three and_on) (name 1 3) ≡ 2 ∷ 3 ∷ 0 ∷ []
unfolding step_after run_from cast_answer arrive_answer tick_answer view drained frame_at head_at cast_at burst_at payloads_at next_payload_at status_at request_at pairs_at pair_at number_at text_of spelling messages_of first_number last_number
its_time = refl

-- Of a burst and a cast the burst is lost to member 1. It asks for both numbers, and gets the burst's frame once.
abbrev losing_a_burst : Schedule
losing_a_burst = CastStep 0 (Many ((97 ∷ []) ∷ (98 ∷ []) ∷ [])) ∷ CastStep 0 (One (99 ∷ [])) ∷ ArriveStep 1 1 ∷ TickStep 1 ∷ ArriveStep 0 3 ∷ ArriveStep 1 4 ∷ []

the_burst_is_asked_for : drop 3 (run three losing_a_burst).sent
    ≡ record { from = 1; to = Some 0; bytes = 19 ∷ 7 ∷ 1 ∷ 0 ∷ 1 ∷ 0 ∷ 1 ∷ [] } ∷ record { from = 0; to = Some 1; bytes = 33 ∷ 7 ∷ 0 ∷ 1 ∷ 0 ∷ 2 ∷ 1 ∷ 97 ∷ 1 ∷ 98 ∷ [] } ∷ []
unfolding step_after run_from cast_answer arrive_answer tick_answer view drained frame_at head_at cast_at burst_at payloads_at next_payload_at status_at request_at pairs_at pair_at number_at text_of spelling messages_of first_number last_number
the_burst_is_asked_for = refl

and_all_three_are_delivered : delivered (seat_at three 1) (facts_at (run three losing_a_burst) 1) 0 ≡ 3
unfolding step_after run_from cast_answer arrive_answer tick_answer view drained frame_at head_at cast_at burst_at payloads_at next_payload_at status_at request_at pairs_at pair_at number_at text_of spelling messages_of first_number last_number
and_all_three_are_delivered = refl

-- a burst of nothing, one of too many messages, and one that the window of four has no room for
abbrev refused_bursts : Schedule
refused_bursts = CastStep 0 (Many []) ∷ CastStep 0 (Many (map (λ n. []) (range_with_len 0 33))) ∷ CastStep 0 (Many ([] ∷ [] ∷ [] ∷ [] ∷ [] ∷ [])) ∷ CastStep 0 (Many ([] ∷ [] ∷ [] ∷ [] ∷ [])) ∷ []

three_are_refused : take 3 (answers (run three refused_bursts)) ≡ CastAnswer (Err EmptyBurst) ∷ CastAnswer (Err BurstTooLong) ∷ CastAnswer (Err WindowFull) ∷ []
unfolding step_after run_from cast_answer arrive_answer tick_answer view drained frame_at head_at cast_at burst_at payloads_at next_payload_at status_at request_at pairs_at pair_at number_at text_of spelling messages_of first_number last_number
three_are_refused = refl

and_four_have_room : delivered (seat_at three 0) (facts_at (run three refused_bursts) 0) 0 ≡ 4
unfolding step_after run_from cast_answer arrive_answer tick_answer view drained frame_at head_at cast_at burst_at payloads_at next_payload_at status_at request_at pairs_at pair_at number_at text_of spelling messages_of first_number last_number
and_four_have_room = refl

-- ---- the laws speak of these schedules: the setting is one

the_setting : IsSetting three
the_setting = record {
  group = record {
    size = record { two_or_more = omega arith; at_most_sixty_four = omega arith };
    width = record { one_or_more = omega arith; at_most_widest = omega arith };
    number_fits = omega arith;
  };
  one_or_more = omega arith;
}

-- so after each of them the headline holds
the_headline : Headline three (run three in_the_end)
the_headline = each_schedule Headline headline_holds three in_the_end the_setting

the_headline_of_bursts : Headline three (run three then_its_cause)
the_headline_of_bursts = each_schedule Headline headline_holds three then_its_cause the_setting

-- member 2 has delivered "yo" in the end, and so, by the headline, it is a closed arrival
yo_is_closed : IsClosedArrival three (run three in_the_end) 2 (name 1 1)
unfolding step_after run_from cast_answer arrive_answer tick_answer view drained frame_at head_at cast_at status_at request_at pairs_at pair_at number_at text_of spelling messages_of first_number last_number
yo_is_closed = (the_headline.delivered 2 (name 1 1)).0 (record { index = 1; event = causal.Deliver (name 1 1) (121 ∷ 111 ∷ []); stands = refl; named = refl })

-- two members cast at once: neither time is at most the other
abbrev at_once : Schedule
at_once = CastStep 0 (One (97 ∷ [])) ∷ CastStep 1 (One (98 ∷ [])) ∷ ArriveStep 0 1 ∷ ArriveStep 1 0 ∷ []

one_of_them : time_from_bytes three (run three at_once) (name 0 1) ≡ 1 ∷ 0 ∷ 0 ∷ []
unfolding step_after run_from cast_answer arrive_answer tick_answer view drained frame_at head_at cast_at status_at request_at pairs_at pair_at number_at text_of spelling messages_of first_number last_number
one_of_them = refl

the_other : time_from_bytes three (run three at_once) (name 1 1) ≡ 0 ∷ 1 ∷ 0 ∷ []
unfolding step_after run_from cast_answer arrive_answer tick_answer view drained frame_at head_at cast_at status_at request_at pairs_at pair_at number_at text_of spelling messages_of first_number last_number
the_other = refl

-- ---- what is stable: both others tell their statuses

abbrev reported_back : Schedule
reported_back = CastStep 0 (One (97 ∷ [])) ∷ ArriveStep 1 0 ∷ ArriveStep 2 0 ∷ TickStep 1 ∷ TickStep 2 ∷ ArriveStep 0 1 ∷ ArriveStep 0 2 ∷ []

the_cast_is_stable : stable (seat_at three 0) (facts_at (run three reported_back) 0) ≡ 1
unfolding step_after run_from cast_answer arrive_answer tick_answer view drained frame_at head_at cast_at status_at request_at pairs_at pair_at number_at text_of spelling messages_of first_number last_number
the_cast_is_stable = refl

and_delivered_by_the_first : delivered (seat_at three 1) (facts_at (run three reported_back) 1) 0 ≡ 1
unfolding step_after run_from cast_answer arrive_answer tick_answer view drained frame_at head_at cast_at status_at request_at pairs_at pair_at number_at text_of spelling messages_of first_number last_number
and_delivered_by_the_first = refl

and_by_the_second : delivered (seat_at three 2) (facts_at (run three reported_back) 2) 0 ≡ 1
unfolding step_after run_from cast_answer arrive_answer tick_answer view drained frame_at head_at cast_at status_at request_at pairs_at pair_at number_at text_of spelling messages_of first_number last_number
and_by_the_second = refl

-- ---- and what a third member knows of it: the status of member 2 and its own delivery are enough

abbrev reported_to_a_third : Schedule
reported_to_a_third = CastStep 0 (One (97 ∷ [])) ∷ ArriveStep 1 0 ∷ ArriveStep 2 0 ∷ TickStep 2 ∷ ArriveStep 1 1 ∷ []

-- member 1 has that cast and hears of no other by the status: what is news is that member 2 has it too
it_is_news : map (λ o. o.answer) (drop 4 (run three reported_to_a_third).outcomes) ≡ ArrivalAnswer (Ok (Accepted [] true [])) ∷ []
unfolding step_after run_from cast_answer arrive_answer tick_answer view drained frame_at head_at cast_at status_at request_at pairs_at pair_at number_at text_of spelling messages_of first_number last_number
it_is_news = refl

known_to_a_third : stable_of (seat_at three 1) (facts_at (run three reported_to_a_third) 1) 0 ≡ 1
unfolding step_after run_from cast_answer arrive_answer tick_answer view drained frame_at head_at cast_at status_at request_at pairs_at pair_at number_at text_of spelling messages_of first_number last_number
known_to_a_third = refl

and_not_before : stable_of (seat_at three 1) (facts_at (run three (take 4 reported_to_a_third)) 1) 0 ≡ 0
unfolding step_after run_from cast_answer arrive_answer tick_answer view drained frame_at head_at cast_at status_at request_at pairs_at pair_at number_at text_of spelling messages_of first_number last_number
and_not_before = refl

nor_to_the_sender : stable (seat_at three 0) (facts_at (run three reported_to_a_third) 0) ≡ 0
unfolding step_after run_from cast_answer arrive_answer tick_answer view drained frame_at head_at cast_at status_at request_at pairs_at pair_at number_at text_of spelling messages_of first_number last_number
nor_to_the_sender = refl

-- ---- the one refusal of an arrival: no entry is left, and then nothing has arrived

abbrev short : Setting
short = record { group = record { number = 7; size = 3; window = 4 }; limit = 1 }

abbrev filling : Schedule
filling = CastStep 0 (One (97 ∷ [])) ∷ CastStep 1 (One (98 ∷ [])) ∷ ArriveStep 1 0 ∷ []

the_history_is_full : map (λ o. o.answer) (drop 2 (run short filling).outcomes) ≡ ArrivalAnswer (Err arrivals.HistoryFull) ∷ []
unfolding step_after run_from cast_answer arrive_answer tick_answer view drained frame_at head_at cast_at status_at request_at pairs_at pair_at number_at text_of spelling messages_of first_number last_number
the_history_is_full = refl

it_has_not_arrived : has_arrived (run short filling) 1 (name 0 1) ≡ false
unfolding step_after run_from cast_answer arrive_answer tick_answer view drained frame_at head_at cast_at status_at request_at pairs_at pair_at number_at text_of spelling messages_of first_number last_number
it_has_not_arrived = refl
