-- Worked restarts of a group of two.
use Rattle.std.proofs.Common.{◌≡◌, ℕ, List, [], ◌∷◌, ◌++◌, length, get_or, map, None, Ok, refl, sym, ap, ◌∙◌, arith}
use Rattle.std.specs.Prelude.{slice_get}
use Rattle.cb_varint.specs.Reading.{number_at, spelling}
use Rattle.cb_frames.specs.Fields.{One, CastFields, CastFrame, messages_of, first_number, last_number}
use Rattle.cb_frames.specs.Text.{text_of}
use Rattle.cb_frames.specs.Reading.{frame_at, head_at, cast_at, status_at, request_at, pairs_at, pair_at}
use Rattle.cb_delay.specs.declared.message.Event.{Event}
use Rattle.cb_delay.specs.declared.message.Event.TheVariants.{Deliver}
use Rattle.cb_history.specs.Read.{frame_read}
use Rattle.cb_history.specs.View.{view, drained}
use Rattle.cb_history.specs.Answers.{cast_answer, arrive_answer, tick_answer}
use Rattle.cb_schedules.specs.Schedule.{Setting, IsSetting, CastStep, ArriveStep, TickStep, SentFrame, step_after, run_from, run}
use Rattle.cb_schedules.specs.Messages.{stamped_lists}
use Rattle.cb_schedules.specs.SentLaws.{HoldsNumber}
use Rattle.cb_schedules.specs.Restarts.{JournaledStep, EnterStep, WriteStep, SendStep, HandOutStep, RestartStep, WriteFirst, WriteLater, journaled_step, journaled_from, journaled_run, without_dropped}
use Rattle.cb_schedules.specs.RestartLaws.{SendingFirstUsesANameTwice, HandingOutFirstIsTakenBack}

-- group 7 of two members with a window of 4, and room for 100 entries in each history
abbrev two : Setting
two = record { group = record { number = 7; size = 2; window = 4 }; limit = 100 }

the_setting : IsSetting two
the_setting = record {
  group = record {
    size = record { two_or_more = omega arith; at_most_sixty_four = omega arith };
    width = record { one_or_more = omega arith; at_most_widest = omega arith };
    number_fits = omega arith;
  };
  one_or_more = omega arith;
}

-- ---- what is not written is dropped

-- Member 0 casts "a", writes it and sends it. It arrives at member 1, whose caller asks for events, and which ends before the entry is
-- written. Member 0 casts "b", which is neither written nor sent, and ends too.
abbrev both_end : List JournaledStep
both_end =
    EnterStep (CastStep 0 (One (97 ∷ []))) ∷ WriteStep 0 ∷ SendStep 0 0
    ∷ EnterStep (ArriveStep 1 0) ∷ HandOutStep 1 ∷ RestartStep 1
    ∷ EnterStep (CastStep 0 (One (98 ∷ []))) ∷ SendStep 0 0 ∷ RestartStep 0 ∷ []

-- "a" is left
what_is_left : without_dropped (journaled_run WriteFirst two both_end) ≡ CastStep 0 (One (97 ∷ [])) ∷ []
unfolding journaled_step journaled_from cast_answer arrive_answer tick_answer view drained frame_at head_at cast_at status_at request_at pairs_at pair_at number_at text_of spelling messages_of first_number last_number
what_is_left = refl

how_long_the_histories_are : map (λ k. length ((journaled_run WriteFirst two both_end).histories k)) (0 ∷ 1 ∷ []) ≡ 1 ∷ 0 ∷ []
unfolding journaled_step journaled_from cast_answer arrive_answer tick_answer view drained frame_at head_at cast_at status_at request_at pairs_at pair_at number_at text_of spelling messages_of first_number last_number
how_long_the_histories_are = refl

what_was_sent : map (λ f. f.bytes) (journaled_run WriteFirst two both_end).sent ≡ (17 ∷ 7 ∷ 0 ∷ 1 ∷ 0 ∷ 1 ∷ 97 ∷ []) ∷ []
unfolding journaled_step journaled_from cast_answer arrive_answer tick_answer view drained frame_at head_at cast_at status_at request_at pairs_at pair_at number_at text_of spelling messages_of first_number last_number
what_was_sent = refl

nothing_was_handed_out : (journaled_run WriteFirst two both_end).handed 1 ≡ []
unfolding journaled_step journaled_from cast_answer arrive_answer tick_answer view drained frame_at head_at cast_at status_at request_at pairs_at pair_at number_at text_of spelling messages_of first_number last_number
nothing_was_handed_out = refl

-- ---- and they go on

-- Now member 0 casts "c", under the number that nobody has seen, writes and sends it. Both frames arrive at member 1, which writes the
-- first entry, ends before its caller is handed its event, and comes back.
abbrev they_go_on : List JournaledStep
they_go_on =
    EnterStep (CastStep 0 (One (97 ∷ []))) ∷ WriteStep 0 ∷ SendStep 0 0
    ∷ EnterStep (ArriveStep 1 0) ∷ HandOutStep 1 ∷ RestartStep 1
    ∷ EnterStep (CastStep 0 (One (98 ∷ []))) ∷ SendStep 0 0 ∷ RestartStep 0
    ∷ EnterStep (CastStep 0 (One (99 ∷ []))) ∷ WriteStep 0 ∷ SendStep 0 0
    ∷ EnterStep (ArriveStep 1 0) ∷ EnterStep (ArriveStep 1 1) ∷ WriteStep 1 ∷ RestartStep 1
    ∷ HandOutStep 1 ∷ HandOutStep 1 ∷ []

then_this_is_left : without_dropped (journaled_run WriteFirst two they_go_on) ≡ CastStep 0 (One (97 ∷ [])) ∷ CastStep 0 (One (99 ∷ [])) ∷ ArriveStep 1 0 ∷ []
unfolding journaled_step journaled_from cast_answer arrive_answer tick_answer view drained frame_at head_at cast_at status_at request_at pairs_at pair_at number_at text_of spelling messages_of first_number last_number
then_this_is_left = refl

-- "b" was never sent
then_these_were_sent : map (λ f. f.bytes) (journaled_run WriteFirst two they_go_on).sent
    ≡ (17 ∷ 7 ∷ 0 ∷ 1 ∷ 0 ∷ 1 ∷ 97 ∷ []) ∷ (17 ∷ 7 ∷ 0 ∷ 2 ∷ 0 ∷ 1 ∷ 99 ∷ []) ∷ []
unfolding journaled_step journaled_from cast_answer arrive_answer tick_answer view drained frame_at head_at cast_at status_at request_at pairs_at pair_at number_at text_of spelling messages_of first_number last_number
then_these_were_sent = refl

-- the event that was written and not handed out is handed out behind the restart, once
then_one_is_handed_out : (journaled_run WriteFirst two they_go_on).handed 1 ≡ Deliver (record { name = record { sender = 0; number = 1 }; time = 1 ∷ 0 ∷ []; payload = 97 ∷ [] }) ∷ []
unfolding journaled_step journaled_from cast_answer arrive_answer tick_answer view drained frame_at head_at cast_at status_at request_at pairs_at pair_at number_at text_of spelling messages_of first_number last_number
then_one_is_handed_out = refl

-- ---- an arrival is renumbered

-- Member 0 casts "a" and does not write it. Member 1 casts "b", writes and sends it: this is the first frame that was sent. It arrives
-- at member 0 and is not written there. Without restarts the frame of "a" stands before it.
abbrev one_waits : List JournaledStep
one_waits =
    EnterStep (CastStep 0 (One (97 ∷ []))) ∷ EnterStep (CastStep 1 (One (98 ∷ []))) ∷ WriteStep 1 ∷ SendStep 1 0
    ∷ EnterStep (ArriveStep 0 0) ∷ []

it_is_the_second_put_out : without_dropped (journaled_run WriteFirst two one_waits) ≡ CastStep 0 (One (97 ∷ [])) ∷ CastStep 1 (One (98 ∷ [])) ∷ ArriveStep 0 1 ∷ []
unfolding journaled_step journaled_from cast_answer arrive_answer tick_answer view drained frame_at head_at cast_at status_at request_at pairs_at pair_at number_at text_of spelling messages_of first_number last_number
it_is_the_second_put_out = refl

-- ---- a frame without an entry waits for the entries before it

-- Member 1 ticks twice, and the second status has no entry of its own.
abbrev ticking : List JournaledStep
ticking = EnterStep (TickStep 1) ∷ EnterStep (TickStep 1) ∷ SendStep 1 0 ∷ SendStep 1 1 ∷ []

neither_goes : (journaled_run WriteFirst two ticking).sent ≡ []
unfolding journaled_step journaled_from cast_answer arrive_answer tick_answer view drained frame_at head_at cast_at status_at request_at pairs_at pair_at number_at text_of spelling messages_of first_number last_number
neither_goes = refl

abbrev ticking_on : List JournaledStep
ticking_on = EnterStep (TickStep 1) ∷ EnterStep (TickStep 1) ∷ SendStep 1 0 ∷ SendStep 1 1 ∷ WriteStep 1 ∷ SendStep 1 1 ∷ SendStep 1 0 ∷ []

then_both_go : length (journaled_run WriteFirst two ticking_on).sent ≡ 2
unfolding journaled_step journaled_from cast_answer arrive_answer tick_answer view drained frame_at head_at cast_at status_at request_at pairs_at pair_at number_at text_of spelling messages_of first_number last_number
then_both_go = refl

-- ---- the other order

-- Member 0 casts "a", sends it and ends before it is written. It comes back, casts "b" under the same number, and sends it.
abbrev sent_too_early : List JournaledStep
sent_too_early = EnterStep (CastStep 0 (One (97 ∷ []))) ∷ SendStep 0 0 ∷ RestartStep 0 ∷ EnterStep (CastStep 0 (One (98 ∷ []))) ∷ SendStep 0 0 ∷ []

abbrev frame_of : ℕ → SentFrame
frame_of byte = record { from = 0; to = None; bytes = 17 ∷ 7 ∷ 0 ∷ 1 ∷ 0 ∷ 1 ∷ byte ∷ [] }

abbrev cast_of : ℕ → CastFields
cast_of byte = record { group = 7; sender = 0; number = 1; changes = []; load = One (byte ∷ []) }

two_messages_of_one_name : (journaled_run WriteLater two sent_too_early).sent ≡ frame_of 97 ∷ frame_of 98 ∷ []
unfolding journaled_step journaled_from cast_answer arrive_answer tick_answer view drained frame_at head_at cast_at status_at request_at pairs_at pair_at number_at text_of spelling messages_of first_number last_number
two_messages_of_one_name = refl

-- the same steps, where entries are written first, send nothing
but_not_where_it_is_written_first : (journaled_run WriteFirst two sent_too_early).sent ≡ []
unfolding journaled_step journaled_from cast_answer arrive_answer tick_answer view drained frame_at head_at cast_at status_at request_at pairs_at pair_at number_at text_of spelling messages_of first_number last_number
but_not_where_it_is_written_first = refl

first_is_read : frame_read (frame_of 97).bytes ≡ Ok (CastFrame (cast_of 97))
unfolding frame_at head_at cast_at status_at request_at pairs_at pair_at number_at
first_is_read = refl

second_is_read : frame_read (frame_of 98).bytes ≡ Ok (CastFrame (cast_of 98))
unfolding frame_at head_at cast_at status_at request_at pairs_at pair_at number_at
second_is_read = refl

holds_one : (byte : ℕ) → HoldsNumber (cast_of byte) 1
unfolding messages_of first_number last_number
holds_one byte = (omega arith, omega arith)

-- so one name has two texts
pub sending_first_uses_a_name_twice : SendingFirstUsesANameTwice
sending_first_uses_a_name_twice = (
  two,
  sent_too_early,
  the_setting,
  λ same.
      let sent = two_messages_of_one_name in
      let texts : (frame_of 97).bytes ≡ (frame_of 98).bytes =
      same (frame_of 97) (frame_of 98) (cast_of 97) (cast_of 98) 1 (0, ap (λ (fs : List SentFrame). slice_get fs 0) sent) (1, ap (λ (fs : List SentFrame). slice_get fs 1) sent)
      first_is_read second_is_read refl (holds_one 97) (holds_one 98) in
      let last : 97 ≡ 98 = ap (λ (bytes : List ℕ). get_or bytes 6 0) texts in
      omega (arith, last),
)

-- "a" arrives at member 1, which does not write it and ticks twice. Its second status has no entry of its own, and says that "a" is
-- delivered. Then it ends.
abbrev status_too_early : List JournaledStep
status_too_early =
    EnterStep (CastStep 0 (One (97 ∷ []))) ∷ WriteStep 0 ∷ SendStep 0 0
    ∷ EnterStep (ArriveStep 1 0) ∷ EnterStep (TickStep 1) ∷ EnterStep (TickStep 1) ∷ SendStep 1 1 ∷ RestartStep 1 ∷ []

it_said_too_much : map (λ f. f.bytes) (journaled_run WriteLater two status_too_early).sent ≡ (17 ∷ 7 ∷ 0 ∷ 1 ∷ 0 ∷ 1 ∷ 97 ∷ []) ∷ (18 ∷ 7 ∷ 1 ∷ 1 ∷ 0 ∷ 1 ∷ []) ∷ []
unfolding journaled_step journaled_from cast_answer arrive_answer tick_answer view drained frame_at head_at cast_at status_at request_at pairs_at pair_at number_at text_of spelling messages_of first_number last_number
it_said_too_much = refl

for_it_has_nothing : (journaled_run WriteLater two status_too_early).histories 1 ≡ []
unfolding journaled_step journaled_from cast_answer arrive_answer tick_answer view drained frame_at head_at cast_at status_at request_at pairs_at pair_at number_at text_of spelling messages_of first_number last_number
for_it_has_nothing = refl

-- so it has to wait for the entries before it
it_waits : length (journaled_run WriteFirst two status_too_early).sent ≡ 1
unfolding journaled_step journaled_from cast_answer arrive_answer tick_answer view drained frame_at head_at cast_at status_at request_at pairs_at pair_at number_at text_of spelling messages_of first_number last_number
it_waits = refl

-- The caller of member 0 is handed "a" before it is written, and it comes back without it.
abbrev handed_too_early : List JournaledStep
handed_too_early = EnterStep (CastStep 0 (One (97 ∷ []))) ∷ HandOutStep 0 ∷ RestartStep 0 ∷ []

one_was_handed_out : length ((journaled_run WriteLater two handed_too_early).handed 0) ≡ 1
unfolding journaled_step journaled_from cast_answer arrive_answer tick_answer view drained frame_at head_at cast_at status_at request_at pairs_at pair_at number_at text_of spelling messages_of first_number last_number
one_was_handed_out = refl

none_is_left : stamped_lists two (run two (without_dropped (journaled_run WriteLater two handed_too_early))) 0 ≡ []
unfolding journaled_step journaled_from step_after run_from cast_answer arrive_answer tick_answer view drained frame_at head_at cast_at status_at request_at pairs_at pair_at number_at text_of spelling messages_of first_number last_number
none_is_left = refl

not_a_beginning : (handed more : List Event) → length handed ≡ 1 → [] ≡ handed ++ more → ⊥
not_a_beginning [] more one e = omega (arith, one)
not_a_beginning (x ∷ handed) more one e = cc

pub handing_out_first_is_taken_back : HandingOutFirstIsTakenBack
handing_out_first_is_taken_back = (
  two,
  handed_too_early,
  the_setting,
  λ begins.
      not_a_beginning ((journaled_run WriteLater two handed_too_early).handed 0) (begins 0).0 one_was_handed_out (sym none_is_left ∙ (begins 0).1),
)
