-- The worked examples of help: what is asked of a third member, and what it hands on.
use Rattle.std.proofs.Common.{◌≡◌, ℕ, false, List, [], ◌∷◌, map, Option, Some, None, Ok, Err, refl}
use Rattle.cb_varint.specs.Reading.{number_at, spelling}
use Rattle.cb_frames.specs.Fields.{One, Many, CastFrame, messages_of, first_number, last_number}
use Rattle.cb_frames.specs.Text.{text_of}
use Rattle.cb_frames.specs.Reading.{frame_at, head_at, cast_at, burst_at, payloads_at, next_payload_at, status_at, request_at, help_at, pairs_at, pair_at}
use Rattle.cb_history.specs.declared.answer.HelpFault.TheVariants as helps
use Rattle.cb_history.specs.declared.answer.Outgoing.{Outgoing}
use Rattle.cb_history.specs.Group.{Identity}
use Rattle.cb_history.specs.Facts.{EntryFields, facts_of}
use Rattle.cb_history.specs.View.{view, drained}
use Rattle.cb_history.specs.Known.{stable_of}
use Rattle.cb_history.specs.Helping.{handed_on, help_answer}
use Rattle.cb_history.specs.Answers.{cast_answer, arrive_answer, tick_answer, Accepted}
use Rattle.cb_history.specs.Legal.{Call, ToCast, ToTake, ToTick, ToHelp, history_after}

-- member `me` of group 7 with three members and a window of 4, and where the window is 1
abbrev at : ℕ → Identity
at me = record { group = record { number = 7; size = 3; window = 4 }; me = me }

abbrev narrow : ℕ → Identity
narrow me = record { group = record { number = 7; size = 3; window = 1 }; me = me }

-- the history after some calls, with room for 100 entries
abbrev after_from : Identity → List EntryFields → List Call → List EntryFields
after_from seat entries [] = entries
after_from seat entries (call ∷ calls) = after_from seat (history_after seat 100 entries call) calls

abbrev after : Identity → List Call → List EntryFields
after seat calls = after_from seat [] calls

-- the frames of "a" and "b" by member 0, the status of who has delivered both, the help frame to member 1 for them, and those of
-- member 2 that say so of its own deliveries
abbrev a : List ℕ
a = 17 ∷ 7 ∷ 0 ∷ 1 ∷ 0 ∷ 1 ∷ 97 ∷ []

abbrev b : List ℕ
b = 17 ∷ 7 ∷ 0 ∷ 2 ∷ 0 ∷ 1 ∷ 98 ∷ []

abbrev both_by : ℕ → List ℕ
both_by member = 18 ∷ 7 ∷ member ∷ 1 ∷ 0 ∷ 2 ∷ []

abbrev help : List ℕ
help = 35 ∷ 7 ∷ 2 ∷ 1 ∷ 0 ∷ 1 ∷ 0 ∷ 1 ∷ []

abbrev to_two : List ℕ → Outgoing
to_two bytes = record { to = Some 2; bytes = bytes }

-- member 2 has heard of both casts by member 1, which has delivered them
member_one_is_asked : help_answer (at 2) (after (at 2) (ToTake (both_by 1) ∷ [])) 0 ≡ Ok (Some (record { to = Some 1; bytes = help }))
unfolding help_answer cast_answer arrive_answer tick_answer view drained frame_at head_at cast_at burst_at payloads_at next_payload_at status_at request_at help_at pairs_at pair_at number_at text_of spelling messages_of first_number last_number
member_one_is_asked = refl

who_knows_of_none_asks_nobody : help_answer (at 2) [] 0 ≡ Ok None
unfolding help_answer cast_answer arrive_answer tick_answer view drained frame_at head_at cast_at burst_at payloads_at next_payload_at status_at request_at help_at pairs_at pair_at number_at text_of spelling messages_of first_number last_number
who_knows_of_none_asks_nobody = refl

nothing_of_member_one_is_missing : help_answer (at 2) (after (at 2) (ToTake (both_by 1) ∷ [])) 1 ≡ Ok None
unfolding help_answer cast_answer arrive_answer tick_answer view drained frame_at head_at cast_at burst_at payloads_at next_payload_at status_at request_at help_at pairs_at pair_at number_at text_of spelling messages_of first_number last_number
nothing_of_member_one_is_missing = refl

its_own_casts_are_no_matter : help_answer (at 2) (after (at 2) (ToTake (both_by 1) ∷ [])) 2 ≡ Err helps.BadMember
unfolding help_answer cast_answer arrive_answer tick_answer view drained frame_at head_at cast_at burst_at payloads_at next_payload_at status_at request_at help_at pairs_at pair_at number_at text_of spelling messages_of first_number last_number
its_own_casts_are_no_matter = refl

nor_are_those_of_nobody : help_answer (at 2) (after (at 2) (ToTake (both_by 1) ∷ [])) 3 ≡ Err helps.BadMember
unfolding help_answer cast_answer arrive_answer tick_answer view drained frame_at head_at cast_at burst_at payloads_at next_payload_at status_at request_at help_at pairs_at pair_at number_at text_of spelling messages_of first_number last_number
nor_are_those_of_nobody = refl

asking_adds_no_entry : after (at 2) (ToTake (both_by 1) ∷ ToHelp 0 ∷ []) ≡ after (at 2) (ToTake (both_by 1) ∷ [])
unfolding help_answer cast_answer arrive_answer tick_answer view drained frame_at head_at cast_at burst_at payloads_at next_payload_at status_at request_at help_at pairs_at pair_at number_at text_of spelling messages_of first_number last_number
asking_adds_no_entry = refl

-- the sender itself is known to have them, and is not asked so
the_sender_is_no_helper : help_answer (at 2) (after (at 2) (ToTake (18 ∷ 7 ∷ 0 ∷ 1 ∷ 0 ∷ 2 ∷ []) ∷ [])) 0 ≡ Ok None
unfolding help_answer cast_answer arrive_answer tick_answer view drained frame_at head_at cast_at burst_at payloads_at next_payload_at status_at request_at help_at pairs_at pair_at number_at text_of spelling messages_of first_number last_number
the_sender_is_no_helper = refl

-- member 1 hands both on, byte for byte
both_are_handed_on : arrive_answer (at 1) 100 (after (at 1) (ToTake a ∷ ToTake b ∷ [])) help ≡ Ok (Accepted [] false (to_two a ∷ to_two b ∷ []))
unfolding help_answer cast_answer arrive_answer tick_answer view drained frame_at head_at cast_at burst_at payloads_at next_payload_at status_at request_at help_at pairs_at pair_at number_at text_of spelling messages_of first_number last_number
both_are_handed_on = refl

what_waits_is_not : arrive_answer (at 1) 100 (after (at 1) (ToTake b ∷ [])) help ≡ Ok (Accepted [] false [])
unfolding help_answer cast_answer arrive_answer tick_answer view drained frame_at head_at cast_at burst_at payloads_at next_payload_at status_at request_at help_at pairs_at pair_at number_at text_of spelling messages_of first_number last_number
what_waits_is_not = refl

the_sender_hands_on_none_of_its_own : arrive_answer (at 0) 100 (after (at 0) (ToCast (One (97 ∷ [])) ∷ ToCast (One (98 ∷ [])) ∷ [])) help ≡ Ok (Accepted [] false [])
unfolding help_answer cast_answer arrive_answer tick_answer view drained frame_at head_at cast_at burst_at payloads_at next_payload_at status_at request_at help_at pairs_at pair_at number_at text_of spelling messages_of first_number last_number
the_sender_hands_on_none_of_its_own = refl

when_all_have_both_nothing_is : arrive_answer (at 1) 100 (after (at 1) (ToTake a ∷ ToTake b ∷ ToTake (both_by 2) ∷ [])) help ≡ Ok (Accepted [] false [])
unfolding help_answer cast_answer arrive_answer tick_answer view drained frame_at head_at cast_at burst_at payloads_at next_payload_at status_at request_at help_at pairs_at pair_at number_at text_of spelling messages_of first_number last_number
when_all_have_both_nothing_is = refl

all_have_both : stable_of (at 1) (facts_of (after (at 1) (ToTake a ∷ ToTake b ∷ ToTake (both_by 2) ∷ []))) 0 ≡ 2
unfolding help_answer cast_answer arrive_answer tick_answer view drained frame_at head_at cast_at burst_at payloads_at next_payload_at status_at request_at help_at pairs_at pair_at number_at text_of spelling messages_of first_number last_number
all_have_both = refl

-- with a window of 1 the last one alone
the_last_one_is_handed_on : arrive_answer (narrow 1) 100 (after (narrow 1) (ToTake a ∷ ToTake b ∷ [])) help ≡ Ok (Accepted [] false (to_two b ∷ []))
unfolding help_answer cast_answer arrive_answer tick_answer view drained frame_at head_at cast_at burst_at payloads_at next_payload_at status_at request_at help_at pairs_at pair_at number_at text_of spelling messages_of first_number last_number
the_last_one_is_handed_on = refl

-- a burst of which some message is asked for is handed on whole
a_burst_is_handed_on_whole : arrive_answer (at 1) 100 (after (at 1) (ToTake (33 ∷ 7 ∷ 0 ∷ 1 ∷ 0 ∷ 2 ∷ 1 ∷ 97 ∷ 1 ∷ 98 ∷ []) ∷ [])) (35 ∷ 7 ∷ 2 ∷ 1 ∷ 0 ∷ 1 ∷ 1 ∷ 0 ∷ []) ≡ Ok (Accepted [] false (to_two (33 ∷ 7 ∷ 0 ∷ 1 ∷ 0 ∷ 2 ∷ 1 ∷ 97 ∷ 1 ∷ 98 ∷ []) ∷ []))
unfolding help_answer cast_answer arrive_answer tick_answer view drained frame_at head_at cast_at burst_at payloads_at next_payload_at status_at request_at help_at pairs_at pair_at number_at text_of spelling messages_of first_number last_number
a_burst_is_handed_on_whole = refl
