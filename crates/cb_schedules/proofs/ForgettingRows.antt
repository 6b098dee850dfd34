-- Worked schedules of three cores.
use Rattle.std.proofs.Common.{◌≡◌, ℕ, true, List, [], ◌∷◌, drop, map, Some, None, Ok, Err, refl}
use Rattle.cb_varint.specs.Reading.{number_at, spelling}
use Rattle.cb_times.specs.declared.name.Name.{Name}
use Rattle.cb_frames.specs.Fields.{One, Many, messages_of, first_number, last_number}
use Rattle.cb_frames.specs.Text.{text_of}
use Rattle.cb_frames.specs.Reading.{frame_at, head_at, cast_at, burst_at, payloads_at, next_payload_at, status_at, request_at, pairs_at, pair_at}
use Rattle.cb_delay.specs.declared.message.Message.{Message}
use Rattle.cb_delay.specs.declared.message.Event.TheVariants.{Deliver}
use Rattle.cb_history.specs.declared.answer.ArriveRefusal.TheVariants as arrivals
use Rattle.cb_history.specs.Group.{Parameters}
use Rattle.cb_history.specs.View.{view, drained}
use Rattle.cb_history.specs.Answers.{delivered, cast_answer, arrive_answer, tick_answer, Accepted, Repeat}
use Rattle.cb_schedules.specs.Schedule.{Setting, seat_at, CastStep, ArriveStep, TickStep, Schedule, Answer, ArrivalAnswer, NoSuchMember, NoSuchFrame, NoBytes, GroupState, step_after, run_from, run}
use Rattle.cb_schedules.specs.Messages.{facts_at, stamped_lists, has_arrived}
use Rattle.cb_schedules.specs.Forgetting.{step_of_cores, cores_from, run_of_cores}
use Rattle.cb_schedules.specs.ForgettingRounds.{ticked_cores, answered_cores, round_of_cores, rounds_of_cores, cores_after_rounds}

-- group 7 of three with a window of 4; and the same where each history has room for one entry
abbrev three : Parameters
three = record { number = 7; size = 3; window = 4 }

abbrev short : Setting
short = record { group = three; limit = 1 }

abbrev name : ℕ → ℕ → Name
name sender number = record { sender = sender; number = number }

abbrev message : ℕ → ℕ → List ℕ → List ℕ → Message
message sender number time payload = record { name = name sender number; time = time; payload = payload }

abbrev answers : GroupState → List Answer
answers s = map (λ o. o.answer) s.outcomes

-- ---- a history that is full, and a core in its place

-- member 1, which has cast, takes the cast of member 0
abbrev filling : Schedule
filling = CastStep 0 (One (97 ∷ [])) ∷ CastStep 1 (One (98 ∷ [])) ∷ ArriveStep 1 0 ∷ []

a_member_refuses_it : drop 2 (answers (run short filling)) ≡ ArrivalAnswer (Err arrivals.HistoryFull) ∷ []
unfolding step_after run_from cast_answer arrive_answer tick_answer view drained frame_at head_at cast_at status_at request_at pairs_at pair_at number_at text_of spelling messages_of first_number last_number
a_member_refuses_it = refl

a_core_delivers_it : drop 2 (answers (run_of_cores three filling)) ≡ ArrivalAnswer (Ok (Accepted (message 0 1 (1 ∷ 0 ∷ 0 ∷ []) (97 ∷ []) ∷ []) true [])) ∷ []
unfolding step_of_cores cores_from step_after cast_answer arrive_answer tick_answer view drained frame_at head_at cast_at status_at request_at pairs_at pair_at number_at text_of spelling messages_of first_number last_number
a_core_delivers_it = refl

so_it_has_arrived : has_arrived (run_of_cores three filling) 1 (name 0 1) ≡ true
unfolding step_of_cores cores_from step_after cast_answer arrive_answer tick_answer view drained frame_at head_at cast_at status_at request_at pairs_at pair_at number_at text_of spelling messages_of first_number last_number
so_it_has_arrived = refl

-- ---- a loss, a request that is answered, and a repeat

-- Of two casts of core 0 the first is lost to core 1. Its tick asks for it; the request arrives at core 0, whose answer arrives twice.
abbrev losing : Schedule
losing =
    CastStep 0 (One (97 ∷ [])) ∷ CastStep 0 (One (98 ∷ [])) ∷ ArriveStep 1 1 ∷ TickStep 1 ∷ ArriveStep 0 3 ∷ ArriveStep 1 4 ∷ ArriveStep 1 4 ∷ []

what_is_sent : (run_of_cores three losing).sent
    ≡ record { from = 0; to = None; bytes = 17 ∷ 7 ∷ 0 ∷ 1 ∷ 0 ∷ 1 ∷ 97 ∷ [] }
    ∷ record { from = 0; to = None; bytes = 17 ∷ 7 ∷ 0 ∷ 2 ∷ 0 ∷ 1 ∷ 98 ∷ [] }
    ∷ record { from = 1; to = None; bytes = 18 ∷ 7 ∷ 1 ∷ 0 ∷ [] }
    ∷ record { from = 1; to = Some 0; bytes = 19 ∷ 7 ∷ 1 ∷ 0 ∷ 1 ∷ 0 ∷ 0 ∷ [] }
    ∷ record { from = 0; to = Some 1; bytes = 17 ∷ 7 ∷ 0 ∷ 1 ∷ 0 ∷ 1 ∷ 97 ∷ [] }
    ∷ []
unfolding step_of_cores cores_from step_after cast_answer arrive_answer tick_answer view drained frame_at head_at cast_at status_at request_at pairs_at pair_at number_at text_of spelling messages_of first_number last_number
what_is_sent = refl

what_is_delivered : stamped_lists short (run_of_cores three losing) 1
    ≡ Deliver (message 0 1 (1 ∷ 0 ∷ 0 ∷ []) (97 ∷ [])) ∷ Deliver (message 0 2 (2 ∷ 0 ∷ 0 ∷ []) (98 ∷ [])) ∷ []
unfolding step_of_cores cores_from step_after cast_answer arrive_answer tick_answer view drained frame_at head_at cast_at status_at request_at pairs_at pair_at number_at text_of spelling messages_of first_number last_number
what_is_delivered = refl

the_last_is_a_repeat : drop 6 (answers (run_of_cores three losing)) ≡ ArrivalAnswer (Ok Repeat) ∷ []
unfolding step_of_cores cores_from step_after cast_answer arrive_answer tick_answer view drained frame_at head_at cast_at status_at request_at pairs_at pair_at number_at text_of spelling messages_of first_number last_number
the_last_is_a_repeat = refl

-- ---- bursts

-- core 0 casts "hi" and "yo" at once, core 1 takes them and casts "a" and "b" at once; at core 2 "a" and "b" arrive first
abbrev in_bursts : Schedule
in_bursts =
    CastStep 0 (Many ((104 ∷ 105 ∷ []) ∷ (121 ∷ 111 ∷ []) ∷ [])) ∷ ArriveStep 1 0 ∷ CastStep 1 (Many ((97 ∷ []) ∷ (98 ∷ []) ∷ [])) ∷ ArriveStep 2 1 ∷ ArriveStep 2 0 ∷ []

a_core_delivers_bursts : drop 3 (answers (run_of_cores three in_bursts))
    ≡ ArrivalAnswer (Ok (Accepted [] true []))
    ∷ ArrivalAnswer (Ok (Accepted
    (message 0 1 (1 ∷ 0 ∷ 0 ∷ []) (104 ∷ 105 ∷ []) ∷ message 0 2 (2 ∷ 0 ∷ 0 ∷ []) (121 ∷ 111 ∷ []) ∷ message 1 1 (2 ∷ 1 ∷ 0 ∷ []) (97 ∷ []) ∷ message 1 2 (2 ∷ 2 ∷ 0 ∷ []) (98 ∷ []) ∷ [])
    true []))
    ∷ []
unfolding step_of_cores cores_from step_after cast_answer arrive_answer tick_answer view drained frame_at head_at cast_at burst_at payloads_at next_payload_at status_at request_at pairs_at pair_at number_at text_of spelling messages_of first_number last_number
a_core_delivers_bursts = refl

-- ---- steps that name nothing

naming_nothing : answers (run_of_cores three (CastStep 3 (One []) ∷ ArriveStep 1 0 ∷ TickStep 9 ∷ CastStep 0 (One (256 ∷ [])) ∷ [])) ≡ NoSuchMember ∷ NoSuchFrame ∷ NoSuchMember ∷ NoBytes ∷ []
unfolding step_of_cores cores_from step_after cast_answer arrive_answer tick_answer view drained frame_at head_at cast_at status_at request_at pairs_at pair_at number_at text_of spelling messages_of first_number last_number
naming_nothing = refl

-- ---- rounds: casts that are all lost, and what a few rounds make of it

-- core 0 casts twice and core 2 once; nothing arrives
abbrev lost : Schedule
lost = CastStep 0 (One (97 ∷ [])) ∷ CastStep 0 (One (98 ∷ [])) ∷ CastStep 2 (One (99 ∷ [])) ∷ []

-- how many of each other's messages each has delivered behind so many rounds
abbrev counts_behind : ℕ → List (List ℕ)
counts_behind n = map (λ j. map (λ i. delivered (seat_at short j) (facts_at (cores_after_rounds three n (run_of_cores three lost)) j) i) (0 ∷ 1 ∷ 2 ∷ [])) (0 ∷ 1 ∷ 2 ∷ [])

-- in the first round three statuses go out, each to two others, and nothing is asked for yet
the_first_round : round_of_cores three (run_of_cores three lost)
    ≡ TickStep 0 ∷ TickStep 1 ∷ TickStep 2 ∷ ArriveStep 1 3 ∷ ArriveStep 2 3 ∷ ArriveStep 0 4 ∷ ArriveStep 2 4 ∷ ArriveStep 0 5 ∷ ArriveStep 1 5 ∷ []
unfolding round_of_cores ticked_cores answered_cores step_of_cores cores_from step_after cast_answer arrive_answer tick_answer view drained frame_at head_at cast_at status_at request_at pairs_at pair_at number_at text_of spelling messages_of first_number last_number
the_first_round = refl

nobody_has_one : counts_behind 1 ≡ (2 ∷ 0 ∷ 0 ∷ []) ∷ (0 ∷ 0 ∷ 0 ∷ []) ∷ (0 ∷ 0 ∷ 1 ∷ []) ∷ []
unfolding rounds_of_cores round_of_cores ticked_cores answered_cores step_of_cores cores_from step_after cast_answer arrive_answer tick_answer view drained frame_at head_at cast_at status_at request_at pairs_at pair_at number_at text_of spelling messages_of first_number last_number
nobody_has_one = refl

-- where members with room for two entries repair nothing
all_have_all : counts_behind 2 ≡ (2 ∷ 0 ∷ 1 ∷ []) ∷ (2 ∷ 0 ∷ 1 ∷ []) ∷ (2 ∷ 0 ∷ 1 ∷ []) ∷ []
unfolding rounds_of_cores round_of_cores ticked_cores answered_cores step_of_cores cores_from step_after cast_answer arrive_answer tick_answer view drained frame_at head_at cast_at status_at request_at pairs_at pair_at number_at text_of spelling messages_of first_number last_number
all_have_all = refl
