-- The worked examples of one member.
use Rattle.std.proofs.Common.{◌≡◌, ℕ, true, false, List, [], ◌∷◌, ◌++◌, length, map, replicate, Option, Some, None, Result, Ok, Err, refl, arith}
use Rattle.cb_varint.specs.Reading.{number_at, spelling}
use Rattle.cb_frames.specs.declared.fault.FrameFault.TheVariants as faults
use Rattle.cb_frames.specs.Fields.{Load, One, Many, CastFields, CastFrame, messages_of, first_number, last_number}
use Rattle.cb_frames.specs.Text.{text_of}
use Rattle.cb_frames.specs.Reading.{frame_at, head_at, cast_at, burst_at, payloads_at, next_payload_at, status_at, request_at, help_at, pairs_at, pair_at}
use Rattle.cb_delay.specs.declared.message.Message.{Message}
use Rattle.cb_history.specs.CastFault.{CastFault, EmptyBurst, BurstTooLong, PayloadTooLong, WindowFull, HistoryFull}
use Rattle.cb_history.specs.declared.answer.ArriveRefusal.TheVariants as arrivals
use Rattle.cb_history.specs.declared.answer.TickRefusal.TheVariants as ticks
use Rattle.cb_diffs.specs.Expansion.{expanded_time}
use Rattle.cb_history.specs.Group.{Identity, AreParameters}
use Rattle.cb_history.specs.Facts.{EntryFields, facts_of, casts_in}
use Rattle.cb_history.specs.View.{view, drained, time_of, expanded_in, message_in}
use Rattle.cb_history.specs.Known.{missing, ranges_of, acknowledged_of, stable_of, acknowledged, stable}
use Rattle.cb_history.specs.Answers.{is_too_many, next_cast, cast_answer, burst_done, arrive_answer, tick_answer, window, Accepted, Repeat}
use Rattle.cb_history.specs.BeforeHelpers.{arrive_answer_before}
use Rattle.cb_history.specs.Singles.{singles_from}
use Rattle.cb_history.specs.Legal.{Call, ToCast, ToTake, ToTick, history_after}

-- member `me` of group 7 with three members and a window of 4
abbrev at : ℕ → Identity
at me = record { group = record { number = 7; size = 3; window = 4 }; me = me }

-- the history after some calls, with room for 100 entries
abbrev after_from : Identity → List EntryFields → List Call → List EntryFields
after_from seat entries [] = entries
after_from seat entries (call ∷ calls) = after_from seat (history_after seat 100 entries call) calls

abbrev after : Identity → List Call → List EntryFields
after seat calls = after_from seat [] calls

abbrev bytes_of : Result CastFields CastFault → Option (List ℕ)
bytes_of (Ok c) = Some (text_of (CastFrame c))
bytes_of (Err fault) = None

abbrev message : ℕ → ℕ → List ℕ → List ℕ → Message
message sender number time payload = record { name = record { sender = sender; number = number }; time = time; payload = payload }

-- the frames of "hi" by member 0, of "yo" by member 1 that had delivered it, and of "ok" by member 1 at once
abbrev hi : List ℕ
hi = 17 ∷ 7 ∷ 0 ∷ 1 ∷ 0 ∷ 2 ∷ 104 ∷ 105 ∷ []

abbrev yo : List ℕ
yo = 17 ∷ 7 ∷ 1 ∷ 1 ∷ 1 ∷ 0 ∷ 1 ∷ 2 ∷ 121 ∷ 111 ∷ []

abbrev ok : List ℕ
ok = 17 ∷ 7 ∷ 1 ∷ 2 ∷ 0 ∷ 2 ∷ 111 ∷ 107 ∷ []

abbrev the_hi : Message
the_hi = message 0 1 (1 ∷ 0 ∷ 0 ∷ []) (0x68 ∷ 0x69 ∷ [])

abbrev the_yo : Message
the_yo = message 1 1 (1 ∷ 1 ∷ 0 ∷ []) (0x79 ∷ 0x6f ∷ [])

abbrev the_ok : Message
the_ok = message 1 2 (1 ∷ 2 ∷ 0 ∷ []) (0x6f ∷ 0x6b ∷ [])

first_cast : bytes_of (cast_answer (at 0) 100 [] (One (0x68 ∷ 0x69 ∷ []))) ≡ Some hi
unfolding cast_answer arrive_answer tick_answer view drained frame_at head_at cast_at status_at request_at pairs_at pair_at number_at text_of spelling messages_of first_number last_number
first_cast = refl

hi_is_delivered : arrive_answer (at 1) 100 [] hi ≡ Ok (Accepted (the_hi ∷ []) true [])
unfolding cast_answer arrive_answer tick_answer view drained frame_at head_at cast_at status_at request_at pairs_at pair_at number_at text_of spelling messages_of first_number last_number
hi_is_delivered = refl

an_answer_says_what_it_answers : bytes_of (cast_answer (at 1) 100 (after (at 1) (ToTake hi ∷ [])) (One (0x79 ∷ 0x6f ∷ []))) ≡ Some yo
unfolding cast_answer arrive_answer tick_answer view drained frame_at head_at cast_at status_at request_at pairs_at pair_at number_at text_of spelling messages_of first_number last_number
an_answer_says_what_it_answers = refl

a_second_cast_says_what_is_new : bytes_of (cast_answer (at 1) 100 (after (at 1) (ToTake hi ∷ ToCast (One (0x79 ∷ 0x6f ∷ [])) ∷ [])) (One (0x6f ∷ 0x6b ∷ []))) ≡ Some ok
unfolding cast_answer arrive_answer tick_answer view drained frame_at head_at cast_at status_at request_at pairs_at pair_at number_at text_of spelling messages_of first_number last_number
a_second_cast_says_what_is_new = refl

an_answer_that_overtakes_waits : arrive_answer (at 2) 100 [] yo ≡ Ok (Accepted [] true [])
unfolding cast_answer arrive_answer tick_answer view drained frame_at head_at cast_at status_at request_at pairs_at pair_at number_at text_of spelling messages_of first_number last_number
an_answer_that_overtakes_waits = refl

and_is_delivered_after_its_question : arrive_answer (at 2) 100 (after (at 2) (ToTake yo ∷ [])) hi ≡ Ok (Accepted (the_hi ∷ the_yo ∷ []) true [])
unfolding cast_answer arrive_answer tick_answer view drained frame_at head_at cast_at status_at request_at pairs_at pair_at number_at text_of spelling messages_of first_number last_number
and_is_delivered_after_its_question = refl

-- two casts that come in the wrong order
a_later_cast_waits : arrive_answer (at 0) 100 (after (at 0) (ToCast (One (104 ∷ 105 ∷ [])) ∷ [])) ok ≡ Ok (Accepted [] true [])
unfolding cast_answer arrive_answer tick_answer view drained frame_at head_at cast_at status_at request_at pairs_at pair_at number_at text_of spelling messages_of first_number last_number
a_later_cast_waits = refl

and_both_are_delivered_in_order : arrive_answer (at 0) 100 (after (at 0) (ToCast (One (104 ∷ 105 ∷ [])) ∷ ToTake ok ∷ [])) yo ≡ Ok (Accepted (the_yo ∷ the_ok ∷ []) true [])
unfolding cast_answer arrive_answer tick_answer view drained frame_at head_at cast_at status_at request_at pairs_at pair_at number_at text_of spelling messages_of first_number last_number
and_both_are_delivered_in_order = refl

a_repeat_changes_nothing : arrive_answer (at 0) 100 (after (at 0) (ToCast (One (104 ∷ 105 ∷ [])) ∷ ToTake ok ∷ ToTake yo ∷ [])) yo ≡ Ok Repeat
unfolding cast_answer arrive_answer tick_answer view drained frame_at head_at cast_at status_at request_at pairs_at pair_at number_at text_of spelling messages_of first_number last_number
a_repeat_changes_nothing = refl

-- member 0 where the window is 2
abbrev narrow : Identity
narrow = record { group = record { number = 7; size = 3; window = 2 }; me = 0 }

the_window_is_full : cast_answer narrow 100 (after narrow (ToCast (One (97 ∷ [])) ∷ ToCast (One (98 ∷ [])) ∷ [])) (One (99 ∷ [])) ≡ Err WindowFull
unfolding cast_answer arrive_answer tick_answer view drained frame_at head_at cast_at status_at request_at pairs_at pair_at number_at text_of spelling messages_of first_number last_number
the_window_is_full = refl

-- after one cast it has room for one message more, and not for two
then_one_is_not_too_many : is_too_many narrow (facts_of (after narrow (ToCast (One (97 ∷ [])) ∷ []))) 1 ≡ false
unfolding cast_answer arrive_answer tick_answer view drained frame_at head_at cast_at status_at request_at pairs_at pair_at number_at text_of spelling messages_of first_number last_number
then_one_is_not_too_many = refl

but_two_are : is_too_many narrow (facts_of (after narrow (ToCast (One (97 ∷ [])) ∷ []))) 2 ≡ true
unfolding cast_answer arrive_answer tick_answer view drained frame_at head_at cast_at status_at request_at pairs_at pair_at number_at text_of spelling messages_of first_number last_number
but_two_are = refl

one_acknowledgement_is_not_enough : cast_answer narrow 100 (after narrow (ToCast (One (97 ∷ [])) ∷ ToCast (One (98 ∷ [])) ∷ ToTake (18 ∷ 7 ∷ 1 ∷ 1 ∷ 0 ∷ 2 ∷ []) ∷ [])) (One (99 ∷ [])) ≡ Err WindowFull
unfolding cast_answer arrive_answer tick_answer view drained frame_at head_at cast_at status_at request_at pairs_at pair_at number_at text_of spelling messages_of first_number last_number
one_acknowledgement_is_not_enough = refl

both_make_the_casts_stable : stable narrow (facts_of (after narrow (ToCast (One (97 ∷ [])) ∷ ToCast (One (98 ∷ [])) ∷ ToTake (18 ∷ 7 ∷ 1 ∷ 1 ∷ 0 ∷ 2 ∷ []) ∷ ToTake (18 ∷ 7 ∷ 2 ∷ 1 ∷ 0 ∷ 2 ∷ []) ∷ []))) ≡ 2
unfolding cast_answer arrive_answer tick_answer view drained frame_at head_at cast_at status_at request_at pairs_at pair_at number_at text_of spelling messages_of first_number last_number
both_make_the_casts_stable = refl

and_their_frames_are_freed : window narrow (facts_of (after narrow (ToCast (One (97 ∷ [])) ∷ ToCast (One (98 ∷ [])) ∷ ToTake (18 ∷ 7 ∷ 1 ∷ 1 ∷ 0 ∷ 2 ∷ []) ∷ ToTake (18 ∷ 7 ∷ 2 ∷ 1 ∷ 0 ∷ 2 ∷ []) ∷ []))) ≡ []
unfolding cast_answer arrive_answer tick_answer view drained frame_at head_at cast_at status_at request_at pairs_at pair_at number_at text_of spelling messages_of first_number last_number
and_their_frames_are_freed = refl

and_there_is_room_again : bytes_of (cast_answer narrow 100 (after narrow (ToCast (One (97 ∷ [])) ∷ ToCast (One (98 ∷ [])) ∷ ToTake (18 ∷ 7 ∷ 1 ∷ 1 ∷ 0 ∷ 2 ∷ []) ∷ ToTake (18 ∷ 7 ∷ 2 ∷ 1 ∷ 0 ∷ 2 ∷ []) ∷ [])) (One (99 ∷ []))) ≡ Some (17 ∷ 7 ∷ 0 ∷ 3 ∷ 0 ∷ 1 ∷ 99 ∷ [])
unfolding cast_answer arrive_answer tick_answer view drained frame_at head_at cast_at status_at request_at pairs_at pair_at number_at text_of spelling messages_of first_number last_number
and_there_is_room_again = refl

a_first_tick_tells_a_status : tick_answer (at 2) 100 [] ≡ Ok (true, record { to = None; bytes = (18 ∷ 7 ∷ 2 ∷ 0 ∷ []) } ∷ [])
unfolding cast_answer arrive_answer tick_answer view drained frame_at head_at cast_at status_at request_at pairs_at pair_at number_at text_of spelling messages_of first_number last_number
a_first_tick_tells_a_status = refl

a_second_tick_adds_no_entry : tick_answer (at 2) 100 (after (at 2) (ToTick ∷ [])) ≡ Ok (false, record { to = None; bytes = (18 ∷ 7 ∷ 2 ∷ 0 ∷ []) } ∷ [])
unfolding cast_answer arrive_answer tick_answer view drained frame_at head_at cast_at status_at request_at pairs_at pair_at number_at text_of spelling messages_of first_number last_number
a_second_tick_adds_no_entry = refl

-- member 2 has delivered the first cast of member 0 and keeps the fourth
two_casts_are_missing : ranges_of (missing (at 2) (facts_of (after (at 2) (ToTake (17 ∷ 7 ∷ 0 ∷ 1 ∷ 0 ∷ 1 ∷ 97 ∷ []) ∷ ToTake (17 ∷ 7 ∷ 0 ∷ 4 ∷ 0 ∷ 1 ∷ 100 ∷ []) ∷ []))) 0) ≡ record { first = 2; last = 3 } ∷ []
unfolding cast_answer arrive_answer tick_answer view drained frame_at head_at cast_at status_at request_at pairs_at pair_at number_at text_of spelling messages_of first_number last_number
two_casts_are_missing = refl

a_tick_asks_for_them : tick_answer (at 2) 100 (after (at 2) (ToTake (17 ∷ 7 ∷ 0 ∷ 1 ∷ 0 ∷ 1 ∷ 97 ∷ []) ∷ ToTake (17 ∷ 7 ∷ 0 ∷ 4 ∷ 0 ∷ 1 ∷ 100 ∷ []) ∷ [])) ≡ Ok (true, record { to = None; bytes = (18 ∷ 7 ∷ 2 ∷ 1 ∷ 0 ∷ 1 ∷ []) } ∷ record { to = Some 0; bytes = (19 ∷ 7 ∷ 2 ∷ 0 ∷ 1 ∷ 1 ∷ 1 ∷ []) } ∷ [])
unfolding cast_answer arrive_answer tick_answer view drained frame_at head_at cast_at status_at request_at pairs_at pair_at number_at text_of spelling messages_of first_number last_number
a_tick_asks_for_them = refl

the_request_is_answered : arrive_answer (at 0) 100 (after (at 0) (ToCast (One (97 ∷ [])) ∷ ToCast (One (98 ∷ [])) ∷ ToCast (One (99 ∷ [])) ∷ ToCast (One (100 ∷ [])) ∷ [])) (19 ∷ 7 ∷ 2 ∷ 0 ∷ 1 ∷ 1 ∷ 1 ∷ []) ≡ Ok (Accepted [] false (record { to = Some 2; bytes = (17 ∷ 7 ∷ 0 ∷ 2 ∷ 0 ∷ 1 ∷ 98 ∷ []) } ∷ record { to = Some 2; bytes = (17 ∷ 7 ∷ 0 ∷ 3 ∷ 0 ∷ 1 ∷ 99 ∷ []) } ∷ []))
unfolding cast_answer arrive_answer tick_answer view drained frame_at head_at cast_at status_at request_at pairs_at pair_at number_at text_of spelling messages_of first_number last_number
the_request_is_answered = refl

but_by_the_asked_member_alone : arrive_answer (at 1) 100 [] (19 ∷ 7 ∷ 2 ∷ 0 ∷ 1 ∷ 1 ∷ 1 ∷ []) ≡ Ok (Accepted [] false [])
unfolding cast_answer arrive_answer tick_answer view drained frame_at head_at cast_at status_at request_at pairs_at pair_at number_at text_of spelling messages_of first_number last_number
but_by_the_asked_member_alone = refl

beyond_the_window : arrive_answer (at 2) 100 [] (17 ∷ 7 ∷ 0 ∷ 5 ∷ 0 ∷ 0 ∷ []) ≡ Err arrivals.TooFar
unfolding cast_answer arrive_answer tick_answer view drained frame_at head_at cast_at status_at request_at pairs_at pair_at number_at text_of spelling messages_of first_number last_number
beyond_the_window = refl

the_last_of_the_window : arrive_answer (at 2) 100 [] (17 ∷ 7 ∷ 0 ∷ 4 ∷ 0 ∷ 0 ∷ []) ≡ Ok (Accepted [] true [])
unfolding cast_answer arrive_answer tick_answer view drained frame_at head_at cast_at status_at request_at pairs_at pair_at number_at text_of spelling messages_of first_number last_number
the_last_of_the_window = refl

-- a history of one entry
a_cast_uses_the_last_entry : bytes_of (cast_answer (at 0) 1 [] (One (104 ∷ 105 ∷ []))) ≡ Some hi
unfolding cast_answer arrive_answer tick_answer view drained frame_at head_at cast_at status_at request_at pairs_at pair_at number_at text_of spelling messages_of first_number last_number
a_cast_uses_the_last_entry = refl

then_no_cast_is_taken : arrive_answer (at 0) 1 (after (at 0) (ToCast (One (104 ∷ 105 ∷ [])) ∷ [])) (17 ∷ 7 ∷ 1 ∷ 1 ∷ 0 ∷ 0 ∷ []) ≡ Err arrivals.HistoryFull
unfolding cast_answer arrive_answer tick_answer view drained frame_at head_at cast_at status_at request_at pairs_at pair_at number_at text_of spelling messages_of first_number last_number
then_no_cast_is_taken = refl

but_the_own_one_is_a_repeat : arrive_answer (at 0) 1 (after (at 0) (ToCast (One (104 ∷ 105 ∷ [])) ∷ [])) hi ≡ Ok Repeat
unfolding cast_answer arrive_answer tick_answer view drained frame_at head_at cast_at status_at request_at pairs_at pair_at number_at text_of spelling messages_of first_number last_number
but_the_own_one_is_a_repeat = refl

and_a_status_without_news_is_taken : arrive_answer (at 0) 1 (after (at 0) (ToCast (One (104 ∷ 105 ∷ [])) ∷ [])) (18 ∷ 7 ∷ 1 ∷ 0 ∷ []) ≡ Ok (Accepted [] false [])
unfolding cast_answer arrive_answer tick_answer view drained frame_at head_at cast_at status_at request_at pairs_at pair_at number_at text_of spelling messages_of first_number last_number
and_a_status_without_news_is_taken = refl

no_status_is_reported : tick_answer (at 0) 1 (after (at 0) (ToCast (One (104 ∷ 105 ∷ [])) ∷ [])) ≡ Err ticks.HistoryFull
unfolding cast_answer arrive_answer tick_answer view drained frame_at head_at cast_at status_at request_at pairs_at pair_at number_at text_of spelling messages_of first_number last_number
no_status_is_reported = refl

nothing_more_is_cast : cast_answer (at 0) 1 (after (at 0) (ToCast (One (104 ∷ 105 ∷ [])) ∷ [])) (One []) ≡ Err HistoryFull
unfolding cast_answer arrive_answer tick_answer view drained frame_at head_at cast_at status_at request_at pairs_at pair_at number_at text_of spelling messages_of first_number last_number
nothing_more_is_cast = refl

-- what can and what can not come to member 0 after its first cast
the_own_cast_comes_back : arrive_answer (at 0) 100 (after (at 0) (ToCast (One (104 ∷ 105 ∷ [])) ∷ [])) hi ≡ Ok Repeat
unfolding cast_answer arrive_answer tick_answer view drained frame_at head_at cast_at status_at request_at pairs_at pair_at number_at text_of spelling messages_of first_number last_number
the_own_cast_comes_back = refl

the_own_status_comes_back : arrive_answer (at 0) 100 (after (at 0) (ToCast (One (104 ∷ 105 ∷ [])) ∷ [])) (18 ∷ 7 ∷ 0 ∷ 1 ∷ 0 ∷ 1 ∷ []) ≡ Ok (Accepted [] false [])
unfolding cast_answer arrive_answer tick_answer view drained frame_at head_at cast_at status_at request_at pairs_at pair_at number_at text_of spelling messages_of first_number last_number
the_own_status_comes_back = refl

a_cast_that_it_never_made : arrive_answer (at 0) 100 (after (at 0) (ToCast (One (104 ∷ 105 ∷ [])) ∷ [])) (17 ∷ 7 ∷ 0 ∷ 9 ∷ 0 ∷ 0 ∷ []) ≡ Err arrivals.Impossible
unfolding cast_answer arrive_answer tick_answer view drained frame_at head_at cast_at status_at request_at pairs_at pair_at number_at text_of spelling messages_of first_number last_number
a_cast_that_it_never_made = refl

more_deliveries_than_casts : arrive_answer (at 0) 100 (after (at 0) (ToCast (One (104 ∷ 105 ∷ [])) ∷ [])) (18 ∷ 7 ∷ 1 ∷ 1 ∷ 0 ∷ 2 ∷ []) ≡ Err arrivals.Impossible
unfolding cast_answer arrive_answer tick_answer view drained frame_at head_at cast_at status_at request_at pairs_at pair_at number_at text_of spelling messages_of first_number last_number
more_deliveries_than_casts = refl

a_member_that_asks_itself : arrive_answer (at 0) 100 (after (at 0) (ToCast (One (104 ∷ 105 ∷ [])) ∷ [])) (19 ∷ 7 ∷ 0 ∷ 0 ∷ 1 ∷ 0 ∷ 0 ∷ []) ≡ Err arrivals.Impossible
unfolding cast_answer arrive_answer tick_answer view drained frame_at head_at cast_at status_at request_at pairs_at pair_at number_at text_of spelling messages_of first_number last_number
a_member_that_asks_itself = refl

a_time_that_it_never_had : arrive_answer (at 0) 100 (after (at 0) (ToCast (One (104 ∷ 105 ∷ [])) ∷ [])) (18 ∷ 7 ∷ 0 ∷ 1 ∷ 0 ∷ 2 ∷ []) ≡ Err arrivals.Impossible
unfolding cast_answer arrive_answer tick_answer view drained frame_at head_at cast_at status_at request_at pairs_at pair_at number_at text_of spelling messages_of first_number last_number
a_time_that_it_never_had = refl

a_frame_of_another_group : arrive_answer (at 0) 100 (after (at 0) (ToCast (One (104 ∷ 105 ∷ [])) ∷ [])) (17 ∷ 8 ∷ 1 ∷ 1 ∷ 0 ∷ 0 ∷ []) ≡ Err arrivals.OtherGroup
unfolding cast_answer arrive_answer tick_answer view drained frame_at head_at cast_at status_at request_at pairs_at pair_at number_at text_of spelling messages_of first_number last_number
a_frame_of_another_group = refl

a_member_of_no_group : arrive_answer (at 0) 100 (after (at 0) (ToCast (One (104 ∷ 105 ∷ [])) ∷ [])) (17 ∷ 7 ∷ 3 ∷ 1 ∷ 0 ∷ 0 ∷ []) ≡ Err arrivals.BadMember
unfolding cast_answer arrive_answer tick_answer view drained frame_at head_at cast_at status_at request_at pairs_at pair_at number_at text_of spelling messages_of first_number last_number
a_member_of_no_group = refl

bytes_that_are_no_frame : arrive_answer (at 0) 100 (after (at 0) (ToCast (One (104 ∷ 105 ∷ [])) ∷ [])) (17 ∷ 7 ∷ 64 ∷ []) ≡ Err (arrivals.Malformed faults.BadIndex)
unfolding cast_answer arrive_answer tick_answer view drained frame_at head_at cast_at status_at request_at pairs_at pair_at number_at text_of spelling messages_of first_number last_number
bytes_that_are_no_frame = refl

an_empty_payload_is_cast : bytes_of (cast_answer (at 0) 100 [] (One [])) ≡ Some (17 ∷ 7 ∷ 0 ∷ 1 ∷ 0 ∷ 0 ∷ [])
unfolding cast_answer arrive_answer tick_answer view drained frame_at head_at cast_at status_at request_at pairs_at pair_at number_at text_of spelling messages_of first_number last_number
an_empty_payload_is_cast = refl

-- ---- bursts

-- the frames of "hi" and "yo" by member 0, and of "a" and "b" by member 1 that had delivered them
abbrev two_greetings : Load
two_greetings = Many ((104 ∷ 105 ∷ []) ∷ (121 ∷ 111 ∷ []) ∷ [])

abbrev greetings : List ℕ
greetings = 33 ∷ 7 ∷ 0 ∷ 1 ∷ 0 ∷ 2 ∷ 2 ∷ 104 ∷ 105 ∷ 2 ∷ 121 ∷ 111 ∷ []

abbrev two_letters : Load
two_letters = Many ((97 ∷ []) ∷ (98 ∷ []) ∷ [])

abbrev letters : List ℕ
letters = 33 ∷ 7 ∷ 1 ∷ 1 ∷ 1 ∷ 0 ∷ 2 ∷ 2 ∷ 1 ∷ 97 ∷ 1 ∷ 98 ∷ []

abbrev a_letter : ℕ → ℕ → Message
a_letter number letter = message 1 number (2 ∷ number ∷ 0 ∷ []) (letter ∷ [])

a_burst_is_one_frame : bytes_of (cast_answer (at 0) 100 [] two_greetings) ≡ Some greetings
unfolding cast_answer arrive_answer tick_answer view drained frame_at head_at cast_at burst_at payloads_at next_payload_at status_at request_at pairs_at pair_at number_at text_of spelling messages_of first_number last_number
a_burst_is_one_frame = refl

it_says_its_first_message : burst_done (at 0) [] (next_cast (at 0) [] two_greetings) ≡ record { first = record { sender = 0; number = 1 }; count = 2; time = 1 ∷ 0 ∷ 0 ∷ []; out = greetings }
unfolding cast_answer arrive_answer tick_answer view drained frame_at head_at cast_at burst_at payloads_at next_payload_at status_at request_at pairs_at pair_at number_at text_of spelling messages_of first_number last_number
it_says_its_first_message = refl

another_says_what_is_new : bytes_of (cast_answer (at 1) 100 (after (at 1) (ToTake greetings ∷ [])) two_letters) ≡ Some letters
unfolding cast_answer arrive_answer tick_answer view drained frame_at head_at cast_at burst_at payloads_at next_payload_at status_at request_at pairs_at pair_at number_at text_of spelling messages_of first_number last_number
another_says_what_is_new = refl

the_cast_behind_it_has_the_next_number : bytes_of (cast_answer (at 1) 100 (after (at 1) (ToTake greetings ∷ ToCast two_letters ∷ [])) (One (99 ∷ []))) ≡ Some (17 ∷ 7 ∷ 1 ∷ 3 ∷ 0 ∷ 1 ∷ 99 ∷ [])
unfolding cast_answer arrive_answer tick_answer view drained frame_at head_at cast_at burst_at payloads_at next_payload_at status_at request_at pairs_at pair_at number_at text_of spelling messages_of first_number last_number
the_cast_behind_it_has_the_next_number = refl

whose_time_counts_all : time_of 3 (facts_of (after (at 1) (ToTake greetings ∷ ToCast two_letters ∷ ToCast (One (99 ∷ [])) ∷ []))) ≡ 2 ∷ 3 ∷ 0 ∷ []
unfolding cast_answer arrive_answer tick_answer view drained frame_at head_at cast_at burst_at payloads_at next_payload_at status_at request_at pairs_at pair_at number_at text_of spelling messages_of first_number last_number
whose_time_counts_all = refl

a_burst_that_overtakes_waits : arrive_answer (at 2) 100 [] letters ≡ Ok (Accepted [] true [])
unfolding cast_answer arrive_answer tick_answer view drained frame_at head_at cast_at burst_at payloads_at next_payload_at status_at request_at pairs_at pair_at number_at text_of spelling messages_of first_number last_number
a_burst_that_overtakes_waits = refl

and_all_is_delivered_one_by_one : arrive_answer (at 2) 100 (after (at 2) (ToTake letters ∷ [])) greetings ≡ Ok (Accepted (the_hi ∷ message 0 2 (2 ∷ 0 ∷ 0 ∷ []) (0x79 ∷ 0x6f ∷ []) ∷ a_letter 1 97 ∷ a_letter 2 98 ∷ []) true [])
unfolding cast_answer arrive_answer tick_answer view drained frame_at head_at cast_at burst_at payloads_at next_payload_at status_at request_at pairs_at pair_at number_at text_of spelling messages_of first_number last_number
and_all_is_delivered_one_by_one = refl

its_history_has_two_entries : length (after (at 2) (ToTake letters ∷ ToTake greetings ∷ [])) ≡ 2
unfolding cast_answer arrive_answer tick_answer view drained frame_at head_at cast_at burst_at payloads_at next_payload_at status_at request_at pairs_at pair_at number_at text_of spelling messages_of first_number last_number
its_history_has_two_entries = refl

its_time_counts_four_messages : time_of 3 (facts_of (after (at 2) (ToTake letters ∷ ToTake greetings ∷ []))) ≡ 2 ∷ 2 ∷ 0 ∷ []
unfolding cast_answer arrive_answer tick_answer view drained frame_at head_at cast_at burst_at payloads_at next_payload_at status_at request_at pairs_at pair_at number_at text_of spelling messages_of first_number last_number
its_time_counts_four_messages = refl

the_first_burst_is_a_repeat : arrive_answer (at 2) 100 (after (at 2) (ToTake letters ∷ ToTake greetings ∷ [])) greetings ≡ Ok Repeat
unfolding cast_answer arrive_answer tick_answer view drained frame_at head_at cast_at burst_at payloads_at next_payload_at status_at request_at pairs_at pair_at number_at text_of spelling messages_of first_number last_number
the_first_burst_is_a_repeat = refl

and_so_is_the_other : arrive_answer (at 2) 100 (after (at 2) (ToTake letters ∷ ToTake greetings ∷ [])) letters ≡ Ok Repeat
unfolding cast_answer arrive_answer tick_answer view drained frame_at head_at cast_at burst_at payloads_at next_payload_at status_at request_at pairs_at pair_at number_at text_of spelling messages_of first_number last_number
and_so_is_the_other = refl

-- which bursts are cast, where the window is 4
no_burst_is_empty : cast_answer (at 0) 100 [] (Many []) ≡ Err EmptyBurst
unfolding cast_answer arrive_answer tick_answer view drained frame_at head_at cast_at burst_at payloads_at next_payload_at status_at request_at pairs_at pair_at number_at text_of spelling messages_of first_number last_number
no_burst_is_empty = refl

nor_has_it_33_messages : cast_answer (at 0) 100 [] (Many (replicate 33 [])) ≡ Err BurstTooLong
unfolding cast_answer arrive_answer tick_answer view drained frame_at head_at cast_at burst_at payloads_at next_payload_at status_at request_at pairs_at pair_at number_at text_of spelling messages_of first_number last_number
nor_has_it_33_messages = refl

nor_has_it_more_bytes_than_one_payload : cast_answer (at 0) 100 [] (Many (replicate 1000 120 ∷ replicate 25 120 ∷ [])) ≡ Err PayloadTooLong
unfolding cast_answer arrive_answer tick_answer view drained frame_at head_at cast_at burst_at payloads_at next_payload_at status_at request_at pairs_at pair_at number_at text_of spelling messages_of first_number last_number
nor_has_it_more_bytes_than_one_payload = refl

but_it_may_have_as_many : bytes_of (cast_answer (at 0) 100 [] (Many (replicate 1000 120 ∷ replicate 24 120 ∷ []))) ≡ Some (33 ∷ 7 ∷ 0 ∷ 1 ∷ 0 ∷ 2 ∷ 232 ∷ 7 ∷ replicate 1000 120 ++ 24 ∷ replicate 24 120)
unfolding cast_answer arrive_answer tick_answer view drained frame_at head_at cast_at burst_at payloads_at next_payload_at status_at request_at pairs_at pair_at number_at text_of spelling messages_of first_number last_number
but_it_may_have_as_many = refl

five_are_more_than_the_window : cast_answer (at 0) 100 [] (Many (replicate 5 [])) ≡ Err WindowFull
unfolding cast_answer arrive_answer tick_answer view drained frame_at head_at cast_at burst_at payloads_at next_payload_at status_at request_at pairs_at pair_at number_at text_of spelling messages_of first_number last_number
five_are_more_than_the_window = refl

four_are_not : bytes_of (cast_answer (at 0) 100 [] (Many (replicate 4 []))) ≡ Some (33 ∷ 7 ∷ 0 ∷ 1 ∷ 0 ∷ 4 ∷ 0 ∷ 0 ∷ 0 ∷ 0 ∷ [])
unfolding cast_answer arrive_answer tick_answer view drained frame_at head_at cast_at burst_at payloads_at next_payload_at status_at request_at pairs_at pair_at number_at text_of spelling messages_of first_number last_number
four_are_not = refl

no_more_than_the_history : cast_answer (at 0) 1 (after (at 0) (ToCast (One []) ∷ [])) two_letters ≡ Err HistoryFull
unfolding cast_answer arrive_answer tick_answer view drained frame_at head_at cast_at burst_at payloads_at next_payload_at status_at request_at pairs_at pair_at number_at text_of spelling messages_of first_number last_number
no_more_than_the_history = refl

-- a burst that is too far, and one of which one message came before
a_burst_beyond_the_window : arrive_answer (at 2) 100 [] (33 ∷ 7 ∷ 0 ∷ 4 ∷ 0 ∷ 2 ∷ 0 ∷ 0 ∷ []) ≡ Err arrivals.TooFar
unfolding cast_answer arrive_answer tick_answer view drained frame_at head_at cast_at burst_at payloads_at next_payload_at status_at request_at pairs_at pair_at number_at text_of spelling messages_of first_number last_number
a_burst_beyond_the_window = refl

the_second_of_two_comes_alone : arrive_answer (at 2) 100 [] (17 ∷ 7 ∷ 0 ∷ 2 ∷ 0 ∷ 0 ∷ []) ≡ Ok (Accepted [] true [])
unfolding cast_answer arrive_answer tick_answer view drained frame_at head_at cast_at burst_at payloads_at next_payload_at status_at request_at pairs_at pair_at number_at text_of spelling messages_of first_number last_number
the_second_of_two_comes_alone = refl

then_no_burst_has_both : arrive_answer (at 2) 100 (after (at 2) (ToTake (17 ∷ 7 ∷ 0 ∷ 2 ∷ 0 ∷ 0 ∷ []) ∷ [])) (33 ∷ 7 ∷ 0 ∷ 1 ∷ 0 ∷ 2 ∷ 0 ∷ 0 ∷ []) ≡ Err arrivals.Overlap
unfolding cast_answer arrive_answer tick_answer view drained frame_at head_at cast_at burst_at payloads_at next_payload_at status_at request_at pairs_at pair_at number_at text_of spelling messages_of first_number last_number
then_no_burst_has_both = refl

which_leaves_the_member_as_it_was : after (at 2) (ToTake (17 ∷ 7 ∷ 0 ∷ 2 ∷ 0 ∷ 0 ∷ []) ∷ ToTake (33 ∷ 7 ∷ 0 ∷ 1 ∷ 0 ∷ 2 ∷ 0 ∷ 0 ∷ []) ∷ []) ≡ after (at 2) (ToTake (17 ∷ 7 ∷ 0 ∷ 2 ∷ 0 ∷ 0 ∷ []) ∷ [])
unfolding cast_answer arrive_answer tick_answer view drained frame_at head_at cast_at burst_at payloads_at next_payload_at status_at request_at pairs_at pair_at number_at text_of spelling messages_of first_number last_number
which_leaves_the_member_as_it_was = refl

and_the_first_delivers_both : arrive_answer (at 2) 100 (after (at 2) (ToTake (17 ∷ 7 ∷ 0 ∷ 2 ∷ 0 ∷ 0 ∷ []) ∷ [])) (17 ∷ 7 ∷ 0 ∷ 1 ∷ 0 ∷ 0 ∷ []) ≡ Ok (Accepted (message 0 1 (1 ∷ 0 ∷ 0 ∷ []) [] ∷ message 0 2 (2 ∷ 0 ∷ 0 ∷ []) [] ∷ []) true [])
unfolding cast_answer arrive_answer tick_answer view drained frame_at head_at cast_at burst_at payloads_at next_payload_at status_at request_at pairs_at pair_at number_at text_of spelling messages_of first_number last_number
and_the_first_delivers_both = refl

-- of a burst of its own a member did not make the second message
more_messages_than_it_cast : arrive_answer (at 0) 100 (after (at 0) (ToCast (One (104 ∷ 105 ∷ [])) ∷ [])) (33 ∷ 7 ∷ 0 ∷ 1 ∷ 0 ∷ 2 ∷ 2 ∷ 104 ∷ 105 ∷ 2 ∷ 121 ∷ 111 ∷ []) ≡ Err arrivals.Impossible
unfolding cast_answer arrive_answer tick_answer view drained frame_at head_at cast_at burst_at payloads_at next_payload_at status_at request_at pairs_at pair_at number_at text_of spelling messages_of first_number last_number
more_messages_than_it_cast = refl

-- member 0 keeps its burst until all of it is stable, and gives it whole for any of its messages
the_whole_burst_is_sent_again : arrive_answer (at 0) 100 (after (at 0) (ToCast two_greetings ∷ [])) (19 ∷ 7 ∷ 2 ∷ 0 ∷ 1 ∷ 1 ∷ 0 ∷ []) ≡ Ok (Accepted [] false (record { to = Some 2; bytes = greetings } ∷ []))
unfolding cast_answer arrive_answer tick_answer view drained frame_at head_at cast_at burst_at payloads_at next_payload_at status_at request_at pairs_at pair_at number_at text_of spelling messages_of first_number last_number
the_whole_burst_is_sent_again = refl

-- what the others say who delivered its first message
abbrev half_stable : List EntryFields
half_stable = after (at 0) (ToCast two_greetings ∷ ToTake (18 ∷ 7 ∷ 1 ∷ 1 ∷ 0 ∷ 1 ∷ []) ∷ ToTake (18 ∷ 7 ∷ 2 ∷ 1 ∷ 0 ∷ 1 ∷ []) ∷ [])

one_of_two_is_stable : stable (at 0) (facts_of half_stable) ≡ 1
unfolding cast_answer arrive_answer tick_answer view drained frame_at head_at cast_at burst_at payloads_at next_payload_at status_at request_at pairs_at pair_at number_at text_of spelling messages_of first_number last_number
one_of_two_is_stable = refl

and_the_burst_is_still_sent : arrive_answer (at 0) 100 half_stable (19 ∷ 7 ∷ 2 ∷ 0 ∷ 1 ∷ 1 ∷ 0 ∷ []) ≡ Ok (Accepted [] false (record { to = Some 2; bytes = greetings } ∷ []))
unfolding cast_answer arrive_answer tick_answer view drained frame_at head_at cast_at burst_at payloads_at next_payload_at status_at request_at pairs_at pair_at number_at text_of spelling messages_of first_number last_number
and_the_burst_is_still_sent = refl

there_is_room_for_three : bytes_of (cast_answer (at 0) 100 half_stable (Many (replicate 3 []))) ≡ Some (33 ∷ 7 ∷ 0 ∷ 3 ∷ 0 ∷ 3 ∷ 0 ∷ 0 ∷ 0 ∷ [])
unfolding cast_answer arrive_answer tick_answer view drained frame_at head_at cast_at burst_at payloads_at next_payload_at status_at request_at pairs_at pair_at number_at text_of spelling messages_of first_number last_number
there_is_room_for_three = refl

and_not_for_four : cast_answer (at 0) 100 half_stable (Many (replicate 4 [])) ≡ Err WindowFull
unfolding cast_answer arrive_answer tick_answer view drained frame_at head_at cast_at burst_at payloads_at next_payload_at status_at request_at pairs_at pair_at number_at text_of spelling messages_of first_number last_number
and_not_for_four = refl

-- bytes that begin as a burst and are none
an_empty_burst_is_no_frame : arrive_answer (at 1) 100 [] (33 ∷ 7 ∷ 0 ∷ 1 ∷ 0 ∷ 0 ∷ []) ≡ Err (arrivals.Malformed faults.EmptyBurst)
unfolding cast_answer arrive_answer tick_answer view drained frame_at head_at cast_at burst_at payloads_at next_payload_at status_at request_at pairs_at pair_at number_at text_of spelling messages_of first_number last_number
an_empty_burst_is_no_frame = refl

nor_is_one_cut_short : arrive_answer (at 1) 100 [] (33 ∷ []) ≡ Err (arrivals.Malformed faults.Short)
unfolding cast_answer arrive_answer tick_answer view drained frame_at head_at cast_at burst_at payloads_at next_payload_at status_at request_at pairs_at pair_at number_at text_of spelling messages_of first_number last_number
nor_is_one_cut_short = refl

-- ---- help frames, of member 1

nobody_helps_itself : arrive_answer (at 1) 100 [] (35 ∷ 7 ∷ 1 ∷ 1 ∷ 0 ∷ 1 ∷ 0 ∷ 0 ∷ []) ≡ Err arrivals.Impossible
unfolding cast_answer arrive_answer tick_answer view drained frame_at head_at cast_at status_at request_at help_at pairs_at pair_at number_at text_of spelling messages_of first_number last_number
nobody_helps_itself = refl

nobody_asks_for_its_own_casts : arrive_answer (at 1) 100 [] (35 ∷ 7 ∷ 2 ∷ 1 ∷ 2 ∷ 1 ∷ 0 ∷ 0 ∷ []) ≡ Err arrivals.Impossible
unfolding cast_answer arrive_answer tick_answer view drained frame_at head_at cast_at status_at request_at help_at pairs_at pair_at number_at text_of spelling messages_of first_number last_number
nobody_asks_for_its_own_casts = refl

the_sender_is_no_helper : arrive_answer (at 1) 100 [] (35 ∷ 7 ∷ 2 ∷ 1 ∷ 1 ∷ 1 ∷ 0 ∷ 0 ∷ []) ≡ Err arrivals.Impossible
unfolding cast_answer arrive_answer tick_answer view drained frame_at head_at cast_at status_at request_at help_at pairs_at pair_at number_at text_of spelling messages_of first_number last_number
the_sender_is_no_helper = refl

each_of_the_three_is_a_member : arrive_answer (at 1) 100 [] (35 ∷ 7 ∷ 2 ∷ 1 ∷ 3 ∷ 1 ∷ 0 ∷ 0 ∷ []) ≡ Err arrivals.BadMember
unfolding cast_answer arrive_answer tick_answer view drained frame_at head_at cast_at status_at request_at help_at pairs_at pair_at number_at text_of spelling messages_of first_number last_number
each_of_the_three_is_a_member = refl

another_member_answers_nothing : arrive_answer (at 0) 100 (after (at 0) (ToCast (One (104 ∷ 105 ∷ [])) ∷ [])) (35 ∷ 7 ∷ 2 ∷ 1 ∷ 0 ∷ 1 ∷ 0 ∷ 0 ∷ []) ≡ Ok (Accepted [] false [])
unfolding cast_answer arrive_answer tick_answer view drained frame_at head_at cast_at status_at request_at help_at pairs_at pair_at number_at text_of spelling messages_of first_number last_number
another_member_answers_nothing = refl

-- two forged casts that say more of member 0 than there can be
a_forged_cast_is_kept : arrive_answer (at 2) 100 [] (17 ∷ 7 ∷ 1 ∷ 1 ∷ 1 ∷ 0 ∷ 255 ∷ 255 ∷ 255 ∷ 255 ∷ 15 ∷ 0 ∷ []) ≡ Ok (Accepted [] true [])
unfolding cast_answer arrive_answer tick_answer view drained frame_at head_at cast_at status_at request_at pairs_at pair_at number_at text_of spelling messages_of first_number last_number
a_forged_cast_is_kept = refl

and_so_is_the_next : arrive_answer (at 2) 100 (after (at 2) (ToTake (17 ∷ 7 ∷ 1 ∷ 1 ∷ 1 ∷ 0 ∷ 255 ∷ 255 ∷ 255 ∷ 255 ∷ 15 ∷ 0 ∷ []) ∷ [])) (17 ∷ 7 ∷ 1 ∷ 2 ∷ 1 ∷ 0 ∷ 1 ∷ 0 ∷ []) ≡ Ok (Accepted [] true [])
unfolding cast_answer arrive_answer tick_answer view drained frame_at head_at cast_at status_at request_at pairs_at pair_at number_at text_of spelling messages_of first_number last_number
and_so_is_the_next = refl

their_times_stay_at_the_greatest_number : map (message_in 3 (casts_in (facts_of (after (at 2) (ToTake (17 ∷ 7 ∷ 1 ∷ 1 ∷ 1 ∷ 0 ∷ 255 ∷ 255 ∷ 255 ∷ 255 ∷ 15 ∷ 0 ∷ []) ∷ ToTake (17 ∷ 7 ∷ 1 ∷ 2 ∷ 1 ∷ 0 ∷ 1 ∷ 0 ∷ []) ∷ []))))) (expanded_in (casts_in (facts_of (after (at 2) (ToTake (17 ∷ 7 ∷ 1 ∷ 1 ∷ 1 ∷ 0 ∷ 255 ∷ 255 ∷ 255 ∷ 255 ∷ 15 ∷ 0 ∷ []) ∷ ToTake (17 ∷ 7 ∷ 1 ∷ 2 ∷ 1 ∷ 0 ∷ 1 ∷ 0 ∷ []) ∷ []))))) ≡ message 1 1 (4294967295 ∷ 1 ∷ 0 ∷ []) [] ∷ message 1 2 (4294967295 ∷ 2 ∷ 0 ∷ []) [] ∷ []
unfolding cast_answer arrive_answer tick_answer view drained frame_at head_at cast_at status_at request_at pairs_at pair_at number_at text_of spelling messages_of first_number last_number
their_times_stay_at_the_greatest_number = refl

what_they_tell_is_asked_for : tick_answer (at 2) 100 (after (at 2) (ToTake (17 ∷ 7 ∷ 1 ∷ 1 ∷ 1 ∷ 0 ∷ 255 ∷ 255 ∷ 255 ∷ 255 ∷ 15 ∷ 0 ∷ []) ∷ ToTake (17 ∷ 7 ∷ 1 ∷ 2 ∷ 1 ∷ 0 ∷ 1 ∷ 0 ∷ []) ∷ [])) ≡ Ok (true, record { to = None; bytes = (18 ∷ 7 ∷ 2 ∷ 0 ∷ []) } ∷ record { to = Some 0; bytes = (19 ∷ 7 ∷ 2 ∷ 0 ∷ 1 ∷ 0 ∷ 3 ∷ []) } ∷ [])
unfolding cast_answer arrive_answer tick_answer view drained frame_at head_at cast_at status_at request_at pairs_at pair_at number_at text_of spelling messages_of first_number last_number
what_they_tell_is_asked_for = refl

-- member 0 learns from the time of a delivered message that its cast was delivered
a_delivered_time_acknowledges : acknowledged (at 0) (facts_of (after (at 0) (ToCast (One (104 ∷ 105 ∷ [])) ∷ ToTake ok ∷ ToTake yo ∷ []))) 1 ≡ 1
unfolding cast_answer arrive_answer tick_answer view drained frame_at head_at cast_at status_at request_at pairs_at pair_at number_at text_of spelling messages_of first_number last_number
a_delivered_time_acknowledges = refl

the_other_one_has_said_nothing : stable (at 0) (facts_of (after (at 0) (ToCast (One (104 ∷ 105 ∷ [])) ∷ ToTake ok ∷ ToTake yo ∷ []))) ≡ 0
unfolding cast_answer arrive_answer tick_answer view drained frame_at head_at cast_at status_at request_at pairs_at pair_at number_at text_of spelling messages_of first_number last_number
the_other_one_has_said_nothing = refl

its_status_makes_the_cast_stable : stable (at 0) (facts_of (after (at 0) (ToCast (One (104 ∷ 105 ∷ [])) ∷ ToTake ok ∷ ToTake yo ∷ ToTake (18 ∷ 7 ∷ 2 ∷ 1 ∷ 0 ∷ 1 ∷ []) ∷ []))) ≡ 1
unfolding cast_answer arrive_answer tick_answer view drained frame_at head_at cast_at status_at request_at pairs_at pair_at number_at text_of spelling messages_of first_number last_number
its_status_makes_the_cast_stable = refl

a_late_request_gets_nothing : arrive_answer (at 0) 100 (after (at 0) (ToCast (One (104 ∷ 105 ∷ [])) ∷ ToTake ok ∷ ToTake yo ∷ ToTake (18 ∷ 7 ∷ 2 ∷ 1 ∷ 0 ∷ 1 ∷ []) ∷ [])) (19 ∷ 7 ∷ 2 ∷ 0 ∷ 1 ∷ 0 ∷ 0 ∷ []) ≡ Ok (Accepted [] false [])
unfolding cast_answer arrive_answer tick_answer view drained frame_at head_at cast_at status_at request_at pairs_at pair_at number_at text_of spelling messages_of first_number last_number
a_late_request_gets_nothing = refl

-- the frame of a cast by member 2 that had delivered both of member 1's
abbrev after_both : List ℕ
after_both = 17 ∷ 7 ∷ 2 ∷ 1 ∷ 2 ∷ 0 ∷ 1 ∷ 0 ∷ 2 ∷ 0 ∷ []

-- member 0 learns in the same way what one of the others has delivered of the other's casts
a_time_that_waits_acknowledges_nothing : acknowledged_of (at 0) (facts_of (after (at 0) (ToCast (One (104 ∷ 105 ∷ [])) ∷ ToTake after_both ∷ ToTake ok ∷ []))) 2 1 ≡ 0
unfolding cast_answer arrive_answer tick_answer view drained frame_at head_at cast_at status_at request_at pairs_at pair_at number_at text_of spelling messages_of first_number last_number
a_time_that_waits_acknowledges_nothing = refl

a_delivered_time_acknowledges_the_others_casts : acknowledged_of (at 0) (facts_of (after (at 0) (ToCast (One (104 ∷ 105 ∷ [])) ∷ ToTake after_both ∷ ToTake ok ∷ ToTake yo ∷ []))) 2 1 ≡ 2
unfolding cast_answer arrive_answer tick_answer view drained frame_at head_at cast_at status_at request_at pairs_at pair_at number_at text_of spelling messages_of first_number last_number
a_delivered_time_acknowledges_the_others_casts = refl

and_its_senders_own_casts : acknowledged_of (at 0) (facts_of (after (at 0) (ToCast (One (104 ∷ 105 ∷ [])) ∷ ToTake after_both ∷ ToTake ok ∷ ToTake yo ∷ []))) 2 2 ≡ 1
unfolding cast_answer arrive_answer tick_answer view drained frame_at head_at cast_at status_at request_at pairs_at pair_at number_at text_of spelling messages_of first_number last_number
and_its_senders_own_casts = refl

and_nothing_of_another : acknowledged_of (at 0) (facts_of (after (at 0) (ToCast (One (104 ∷ 105 ∷ [])) ∷ ToTake after_both ∷ ToTake ok ∷ ToTake yo ∷ []))) 1 2 ≡ 0
unfolding cast_answer arrive_answer tick_answer view drained frame_at head_at cast_at status_at request_at pairs_at pair_at number_at text_of spelling messages_of first_number last_number
and_nothing_of_another = refl

a_status_acknowledges_the_others_casts : acknowledged_of (at 0) (facts_of (after (at 0) (ToTake (18 ∷ 7 ∷ 1 ∷ 2 ∷ 1 ∷ 5 ∷ 0 ∷ 3 ∷ []) ∷ []))) 1 2 ≡ 3
unfolding cast_answer arrive_answer tick_answer view drained frame_at head_at cast_at status_at request_at pairs_at pair_at number_at text_of spelling messages_of first_number last_number
a_status_acknowledges_the_others_casts = refl

a_lower_status_takes_nothing_back : acknowledged_of (at 0) (facts_of (after (at 0) (ToTake (18 ∷ 7 ∷ 1 ∷ 1 ∷ 2 ∷ 3 ∷ []) ∷ ToTake (18 ∷ 7 ∷ 1 ∷ 2 ∷ 1 ∷ 1 ∷ 0 ∷ 2 ∷ []) ∷ []))) 1 2 ≡ 3
unfolding cast_answer arrive_answer tick_answer view drained frame_at head_at cast_at status_at request_at pairs_at pair_at number_at text_of spelling messages_of first_number last_number
a_lower_status_takes_nothing_back = refl

-- so it knows that all of member 1's are delivered by both others, and not of member 2's
the_others_casts_are_stable_when_both_others_delivered_them : stable_of (at 0) (facts_of (after (at 0) (ToCast (One (104 ∷ 105 ∷ [])) ∷ ToTake after_both ∷ ToTake ok ∷ ToTake yo ∷ []))) 1 ≡ 2
unfolding cast_answer arrive_answer tick_answer view drained frame_at head_at cast_at status_at request_at pairs_at pair_at number_at text_of spelling messages_of first_number last_number
the_others_casts_are_stable_when_both_others_delivered_them = refl

and_not_before : stable_of (at 0) (facts_of (after (at 0) (ToCast (One (104 ∷ 105 ∷ [])) ∷ ToTake after_both ∷ ToTake ok ∷ ToTake yo ∷ []))) 2 ≡ 0
unfolding cast_answer arrive_answer tick_answer view drained frame_at head_at cast_at status_at request_at pairs_at pair_at number_at text_of spelling messages_of first_number last_number
and_not_before = refl

-- "a" and "b" of member 0 at member 1, and what member 2 says of them
abbrev letter_a : List ℕ
letter_a = 17 ∷ 7 ∷ 0 ∷ 1 ∷ 0 ∷ 1 ∷ 97 ∷ []

abbrev letter_b : List ℕ
letter_b = 17 ∷ 7 ∷ 0 ∷ 2 ∷ 0 ∷ 1 ∷ 98 ∷ []

abbrev both_from : ℕ → List ℕ
both_from k = 18 ∷ 7 ∷ k ∷ 1 ∷ 0 ∷ 2 ∷ []

what_one_alone_delivered_is_not_stable : stable_of (at 1) (facts_of (after (at 1) (ToTake letter_a ∷ ToTake letter_b ∷ []))) 0 ≡ 0
unfolding cast_answer arrive_answer tick_answer view drained frame_at head_at cast_at status_at request_at pairs_at pair_at number_at text_of spelling messages_of first_number last_number
what_one_alone_delivered_is_not_stable = refl

what_all_others_delivered_is : stable_of (at 1) (facts_of (after (at 1) (ToTake letter_a ∷ ToTake letter_b ∷ ToTake (both_from 2) ∷ []))) 0 ≡ 2
unfolding cast_answer arrive_answer tick_answer view drained frame_at head_at cast_at status_at request_at pairs_at pair_at number_at text_of spelling messages_of first_number last_number
what_all_others_delivered_is = refl

the_member_itself_is_one_of_them : stable_of (at 1) (facts_of (after (at 1) (ToTake letter_a ∷ ToTake (both_from 2) ∷ []))) 0 ≡ 1
unfolding cast_answer arrive_answer tick_answer view drained frame_at head_at cast_at status_at request_at pairs_at pair_at number_at text_of spelling messages_of first_number last_number
the_member_itself_is_one_of_them = refl

-- member 2 has both letters, and learns only that member 1 has them too
deliveries_of_the_others_casts_are_news : arrive_answer (at 2) 100 (after (at 2) (ToTake letter_a ∷ ToTake letter_b ∷ [])) (both_from 1) ≡ Ok (Accepted [] true [])
unfolding cast_answer arrive_answer tick_answer view drained frame_at head_at cast_at status_at request_at pairs_at pair_at number_at text_of spelling messages_of first_number last_number
deliveries_of_the_others_casts_are_news = refl

but_not_twice : arrive_answer (at 2) 100 (after (at 2) (ToTake letter_a ∷ ToTake letter_b ∷ ToTake (both_from 1) ∷ [])) (both_from 1) ≡ Ok (Accepted [] false [])
unfolding cast_answer arrive_answer tick_answer view drained frame_at head_at cast_at status_at request_at pairs_at pair_at number_at text_of spelling messages_of first_number last_number
but_not_twice = refl

before_helpers_they_were_none : arrive_answer_before (at 2) 100 (after (at 2) (ToTake letter_a ∷ ToTake letter_b ∷ [])) (both_from 1) ≡ Ok (Accepted [] false [])
unfolding cast_answer arrive_answer arrive_answer_before tick_answer view drained frame_at head_at cast_at status_at request_at pairs_at pair_at number_at text_of spelling messages_of first_number last_number
before_helpers_they_were_none = refl

-- the second cast of member 1 came first, so that its status says nothing new of its casts
what_a_sender_says_of_its_own_casts_is_no_delivery : arrive_answer (at 0) 100 (after (at 0) (ToTake ok ∷ [])) (18 ∷ 7 ∷ 1 ∷ 1 ∷ 1 ∷ 2 ∷ []) ≡ Ok (Accepted [] false [])
unfolding cast_answer arrive_answer tick_answer view drained frame_at head_at cast_at status_at request_at pairs_at pair_at number_at text_of spelling messages_of first_number last_number
what_a_sender_says_of_its_own_casts_is_no_delivery = refl

-- payloads of the greatest length, and of one byte more, where the window is full too
the_longest_payload_is_cast : bytes_of (cast_answer (at 0) 100 [] (One (replicate 1024 120))) ≡ Some (17 ∷ 7 ∷ 0 ∷ 1 ∷ 0 ∷ 128 ∷ 8 ∷ replicate 1024 120)
unfolding cast_answer arrive_answer tick_answer view drained frame_at head_at cast_at status_at request_at pairs_at pair_at number_at text_of spelling messages_of first_number last_number
the_longest_payload_is_cast = refl

a_longer_one_is_not : cast_answer (at 0) 100 [] (One (replicate 1025 120)) ≡ Err PayloadTooLong
unfolding cast_answer arrive_answer tick_answer view drained frame_at head_at cast_at status_at request_at pairs_at pair_at number_at text_of spelling messages_of first_number last_number
a_longer_one_is_not = refl

nor_where_the_window_is_full : cast_answer narrow 100 (after narrow (ToCast (One (97 ∷ [])) ∷ ToCast (One (98 ∷ [])) ∷ [])) (One (replicate 1025 120)) ≡ Err PayloadTooLong
unfolding cast_answer arrive_answer tick_answer view drained frame_at head_at cast_at status_at request_at pairs_at pair_at number_at text_of spelling messages_of first_number last_number
nor_where_the_window_is_full = refl

-- member 2 of five in group 300, which has delivered three casts of member 0, one of member 1 and two of member 4
abbrev of_five : Identity
of_five = record { group = record { number = 300; size = 5; window = 4 }; me = 2 }

abbrev six_calls : List Call
six_calls =
    ToTake (17 ∷ 172 ∷ 2 ∷ 0 ∷ 1 ∷ 0 ∷ 0 ∷ [])
    ∷ ToTake (17 ∷ 172 ∷ 2 ∷ 0 ∷ 2 ∷ 0 ∷ 0 ∷ [])
    ∷ ToTake (17 ∷ 172 ∷ 2 ∷ 0 ∷ 3 ∷ 0 ∷ 0 ∷ [])
    ∷ ToTake (17 ∷ 172 ∷ 2 ∷ 4 ∷ 1 ∷ 0 ∷ 0 ∷ [])
    ∷ ToTake (17 ∷ 172 ∷ 2 ∷ 4 ∷ 2 ∷ 0 ∷ 0 ∷ [])
    ∷ ToTake (17 ∷ 172 ∷ 2 ∷ 1 ∷ 1 ∷ 0 ∷ 0 ∷ [])
    ∷ []

it_says_what_it_delivered : bytes_of (cast_answer of_five 100 (after of_five six_calls) (One [])) ≡ Some (17 ∷ 172 ∷ 2 ∷ 2 ∷ 1 ∷ 3 ∷ 0 ∷ 3 ∷ 0 ∷ 1 ∷ 2 ∷ 2 ∷ 0 ∷ [])
unfolding cast_answer arrive_answer tick_answer view drained frame_at head_at cast_at status_at request_at pairs_at pair_at number_at text_of spelling messages_of first_number last_number
it_says_what_it_delivered = refl

its_time_counts_its_cast : time_of 5 (facts_of (after_from of_five (after of_five six_calls) (ToCast (One []) ∷ []))) ≡ 3 ∷ 1 ∷ 1 ∷ 0 ∷ 2 ∷ []
unfolding cast_answer arrive_answer tick_answer view drained frame_at head_at cast_at status_at request_at pairs_at pair_at number_at text_of spelling messages_of first_number last_number
its_time_counts_its_cast = refl

its_status_says_the_time : tick_answer of_five 100 (after_from of_five (after of_five six_calls) (ToCast (One []) ∷ [])) ≡ Ok (true, record { to = None; bytes = (18 ∷ 172 ∷ 2 ∷ 2 ∷ 4 ∷ 0 ∷ 3 ∷ 0 ∷ 1 ∷ 0 ∷ 1 ∷ 1 ∷ 2 ∷ []) } ∷ [])
unfolding cast_answer arrive_answer tick_answer view drained frame_at head_at cast_at status_at request_at pairs_at pair_at number_at text_of spelling messages_of first_number last_number
its_status_says_the_time = refl

-- three messages of member 1, of which the first changes field 0 by 2: their singles, and the times that these add up to
abbrev three_singles : List CastFields
three_singles = singles_from (record { group = 7; sender = 1; number = 4; changes = record { field = 0; amount = 2 } ∷ []; load = One [] }) (record { field = 0; amount = 2 } ∷ [])
    (record { sender = 1; number = 4; payload = 97 ∷ [] } ∷ record { sender = 1; number = 5; payload = 98 ∷ [] } ∷ record { sender = 1; number = 6; payload = 99 ∷ [] } ∷ [])

the_first_has_the_changes : three_singles ≡ record { group = 7; sender = 1; number = 4; changes = record { field = 0; amount = 2 } ∷ []; load = One (97 ∷ []) }
    ∷ record { group = 7; sender = 1; number = 5; changes = []; load = One (98 ∷ []) } ∷ record { group = 7; sender = 1; number = 6; changes = []; load = One (99 ∷ []) } ∷ []
the_first_has_the_changes = refl

and_changes_the_others_too : map (expanded_time 3 three_singles 1) (3 ∷ 4 ∷ 5 ∷ 6 ∷ []) ≡ (0 ∷ 3 ∷ 0 ∷ []) ∷ (2 ∷ 4 ∷ 0 ∷ []) ∷ (2 ∷ 5 ∷ 0 ∷ []) ∷ (2 ∷ 6 ∷ 0 ∷ []) ∷ []
unfolding first_number
and_changes_the_others_too = refl

-- groups and what is none
a_large_group : AreParameters (record { number = 4294967295; size = 64; window = 256 })
a_large_group = record { size = record { two_or_more = omega arith; at_most_sixty_four = omega arith }; width = record { one_or_more = omega arith; at_most_widest = omega arith }; number_fits = omega arith }

no_group_of_one : ¬ AreParameters (record { number = 7; size = 1; window = 4 })
no_group_of_one p = let no = p.size.two_or_more in omega (arith, no)

no_group_of_65 : ¬ AreParameters (record { number = 7; size = 65; window = 4 })
no_group_of_65 p = let no = p.size.at_most_sixty_four in omega (arith, no)

no_window_of_none : ¬ AreParameters (record { number = 7; size = 3; window = 0 })
no_window_of_none p = let no = p.width.one_or_more in omega (arith, no)

no_window_of_257 : ¬ AreParameters (record { number = 7; size = 3; window = 257 })
no_window_of_257 p = let no = p.width.at_most_widest in omega (arith, no)
