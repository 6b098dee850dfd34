-- The worked examples of help among some members: member 1 of four has heard from members 0 and 2 of two casts of member 3.
use Rattle.std.proofs.Common.{◌≡◌, ℕ, List, [], ◌∷◌, Option, Some, None, Result, Ok, Err, refl}
use Rattle.cb_varint.specs.Reading.{number_at, spelling}
use Rattle.cb_frames.specs.Fields.{messages_of, first_number, last_number}
use Rattle.cb_frames.specs.Text.{text_of}
use Rattle.cb_frames.specs.Reading.{frame_at, head_at, cast_at, burst_at, payloads_at, next_payload_at, status_at, request_at, help_at, pairs_at, pair_at}
use Rattle.cb_history.specs.declared.answer.HelpFault.{HelpFault}
use Rattle.cb_history.specs.declared.answer.HelpFault.TheVariants as helps
use Rattle.cb_history.specs.declared.answer.Outgoing.{Outgoing}
use Rattle.cb_history.specs.Group.{Identity}
use Rattle.cb_history.specs.Facts.{EntryFields, facts_of}
use Rattle.cb_history.specs.View.{view, drained}
use Rattle.cb_history.specs.Helping.{help_answer}
use Rattle.cb_history.specs.Answers.{cast_answer, arrive_answer, tick_answer}
use Rattle.cb_history.specs.Legal.{Call, ToTake, history_after}
use Rattle.cb_member.specs.Helping.{help_answer_among}

abbrev one_of_four : Identity
one_of_four = record { group = record { number = 7; size = 4; window = 4 }; me = 1 }

abbrev after : List EntryFields → List Call → List EntryFields
after entries [] = entries
after entries (call ∷ calls) = after (history_after one_of_four 100 entries call) calls

-- the status of a member that has delivered both casts of member 3
abbrev both_by : ℕ → Call
both_by member = ToTake (18 ∷ 7 ∷ member ∷ 1 ∷ 3 ∷ 2 ∷ [])

abbrev told : List EntryFields
told = after [] (both_by 0 ∷ both_by 2 ∷ [])

-- what is sent for the missing casts of i
abbrev asked_of : ℕ → List ℕ → Result (Option Outgoing) HelpFault
asked_of i members = help_answer_among one_of_four (facts_of told) i members

-- the help frame to member k for both casts
abbrev to_member : ℕ → Result (Option Outgoing) HelpFault
to_member k = Ok (Some (record { to = Some k; bytes = 35 ∷ 7 ∷ 1 ∷ k ∷ 3 ∷ 1 ∷ 0 ∷ 1 ∷ [] }))

abbrev nobody : Result (Option Outgoing) HelpFault
nobody = Ok None

abbrev bad_member : Result (Option Outgoing) HelpFault
bad_member = Err helps.BadMember

help_asks_the_first_one_of_all : help_answer one_of_four told 3 ≡ to_member 0
unfolding help_answer help_answer_among cast_answer arrive_answer tick_answer view drained frame_at head_at cast_at burst_at payloads_at next_payload_at status_at request_at help_at pairs_at pair_at number_at text_of spelling messages_of first_number last_number
help_asks_the_first_one_of_all = refl

-- where member 0 is silent and is left out
a_silent_one_is_passed_over : asked_of 3 (2 ∷ []) ≡ to_member 2
unfolding help_answer help_answer_among cast_answer arrive_answer tick_answer view drained frame_at head_at cast_at burst_at payloads_at next_payload_at status_at request_at help_at pairs_at pair_at number_at text_of spelling messages_of first_number last_number
a_silent_one_is_passed_over = refl

of_those_given_the_first_one_is_asked : asked_of 3 (2 ∷ 0 ∷ []) ≡ to_member 2
unfolding help_answer help_answer_among cast_answer arrive_answer tick_answer view drained frame_at head_at cast_at burst_at payloads_at next_payload_at status_at request_at help_at pairs_at pair_at number_at text_of spelling messages_of first_number last_number
of_those_given_the_first_one_is_asked = refl

in_the_order_in_which_they_are_given : asked_of 3 (0 ∷ 2 ∷ []) ≡ to_member 0
unfolding help_answer help_answer_among cast_answer arrive_answer tick_answer view drained frame_at head_at cast_at burst_at payloads_at next_payload_at status_at request_at help_at pairs_at pair_at number_at text_of spelling messages_of first_number last_number
in_the_order_in_which_they_are_given = refl

all_members_in_rising_order_are_those_of_help : asked_of 3 (0 ∷ 1 ∷ 2 ∷ 3 ∷ []) ≡ help_answer one_of_four told 3
unfolding help_answer help_answer_among cast_answer arrive_answer tick_answer view drained frame_at head_at cast_at burst_at payloads_at next_payload_at status_at request_at help_at pairs_at pair_at number_at text_of spelling messages_of first_number last_number
all_members_in_rising_order_are_those_of_help = refl

the_sender_and_the_member_itself_are_passed_over : asked_of 3 (3 ∷ 1 ∷ 2 ∷ []) ≡ to_member 2
unfolding help_answer help_answer_among cast_answer arrive_answer tick_answer view drained frame_at head_at cast_at burst_at payloads_at next_payload_at status_at request_at help_at pairs_at pair_at number_at text_of spelling messages_of first_number last_number
the_sender_and_the_member_itself_are_passed_over = refl

and_where_nobody_else_is_given_nobody_is_asked : asked_of 3 (3 ∷ 1 ∷ []) ≡ nobody
unfolding help_answer help_answer_among cast_answer arrive_answer tick_answer view drained frame_at head_at cast_at burst_at payloads_at next_payload_at status_at request_at help_at pairs_at pair_at number_at text_of spelling messages_of first_number last_number
and_where_nobody_else_is_given_nobody_is_asked = refl

among_nobody_nobody_is_asked : asked_of 3 [] ≡ nobody
unfolding help_answer help_answer_among cast_answer arrive_answer tick_answer view drained frame_at head_at cast_at burst_at payloads_at next_payload_at status_at request_at help_at pairs_at pair_at number_at text_of spelling messages_of first_number last_number
among_nobody_nobody_is_asked = refl

-- member 0 has said nothing
who_is_not_known_to_have_them_is_passed_over : help_answer_among one_of_four (facts_of (after [] (both_by 2 ∷ []))) 3 (0 ∷ 2 ∷ []) ≡ to_member 2
unfolding help_answer help_answer_among cast_answer arrive_answer tick_answer view drained frame_at head_at cast_at burst_at payloads_at next_payload_at status_at request_at help_at pairs_at pair_at number_at text_of spelling messages_of first_number last_number
who_is_not_known_to_have_them_is_passed_over = refl

nothing_of_member_zero_is_missing : asked_of 0 (2 ∷ []) ≡ nobody
unfolding help_answer help_answer_among cast_answer arrive_answer tick_answer view drained frame_at head_at cast_at burst_at payloads_at next_payload_at status_at request_at help_at pairs_at pair_at number_at text_of spelling messages_of first_number last_number
nothing_of_member_zero_is_missing = refl

a_number_that_is_too_large_is_no_member : asked_of 3 (4 ∷ []) ≡ bad_member
unfolding help_answer help_answer_among cast_answer arrive_answer tick_answer view drained frame_at head_at cast_at burst_at payloads_at next_payload_at status_at request_at help_at pairs_at pair_at number_at text_of spelling messages_of first_number last_number
a_number_that_is_too_large_is_no_member = refl

be_it_behind_one_that_would_be_asked : asked_of 3 (0 ∷ 2 ∷ 4 ∷ []) ≡ bad_member
unfolding help_answer help_answer_among cast_answer arrive_answer tick_answer view drained frame_at head_at cast_at burst_at payloads_at next_payload_at status_at request_at help_at pairs_at pair_at number_at text_of spelling messages_of first_number last_number
be_it_behind_one_that_would_be_asked = refl

be_there_nothing_to_ask_for : asked_of 0 (2 ∷ 4 ∷ []) ≡ bad_member
unfolding help_answer help_answer_among cast_answer arrive_answer tick_answer view drained frame_at head_at cast_at burst_at payloads_at next_payload_at status_at request_at help_at pairs_at pair_at number_at text_of spelling messages_of first_number last_number
be_there_nothing_to_ask_for = refl

its_own_casts_are_no_matter : asked_of 1 (0 ∷ 2 ∷ []) ≡ bad_member
unfolding help_answer help_answer_among cast_answer arrive_answer tick_answer view drained frame_at head_at cast_at burst_at payloads_at next_payload_at status_at request_at help_at pairs_at pair_at number_at text_of spelling messages_of first_number last_number
its_own_casts_are_no_matter = refl

nor_are_those_of_nobody : asked_of 4 (0 ∷ 2 ∷ []) ≡ bad_member
unfolding help_answer help_answer_among cast_answer arrive_answer tick_answer view drained frame_at head_at cast_at burst_at payloads_at next_payload_at status_at request_at help_at pairs_at pair_at number_at text_of spelling messages_of first_number last_number
nor_are_those_of_nobody = refl
