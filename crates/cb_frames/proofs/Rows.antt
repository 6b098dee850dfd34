-- The worked frames, and bytes that are none.
use Rattle.std.proofs.Common.{◌≡◌, ℕ, List, [], ◌∷◌, Some, None, Ok, Err, refl, arith, inl}
use Rattle.cb_varint.specs.declared.fault.NumberFault.TheVariants as numbers
use Rattle.cb_varint.specs.Spelling.{Spells}
use Rattle.cb_frames.specs.declared.fault.FrameFault.TheVariants as faults
use Rattle.cb_frames.specs.Fields.{One, Many, numbered, last_from, CastFields, StatusFields, RequestFields, HelpFields, CastFrame, StatusFrame, RequestFrame, HelpFrame, messages_of, first_number, last_number}
use Rattle.cb_frames.specs.Carrying.{AreNumberedFrom}
use Rattle.cb_varint.specs.Reading.{number_at, spelling}
use Rattle.cb_frames.specs.Reading.{run_at, payload_at, frame_at, head_at, cast_at, burst_at, next_payload_at, payloads_at, status_at, request_at, help_at, pairs_at, pair_at}
use Rattle.cb_frames.specs.Text.{text_of}
use Rattle.cb_frames.specs.Fault.{Field, Number, Run, End, length_rule, messages_rule, cast_field, burst_field, status_field, request_field, help_field, FirstFaultOf}

-- the first cast of member 0 of group 7, "hi"
abbrev hi : CastFields
hi = record { group = 7; sender = 0; number = 1; changes = []; load = One (0x68 ∷ 0x69 ∷ []) }

-- the first cast of member 2 of group 300, after three of member 0, one of member 1 and two of member 4
abbrev after_six : CastFields
after_six = record { group = 300; sender = 2; number = 1; changes = record { field = 0; amount = 3 } ∷ record { field = 1; amount = 1 } ∷ record { field = 4; amount = 2 } ∷ []; load = One [] }

-- it carries one message, numbered from 1 to 1
carries_hi : messages_of hi ≡ record { sender = 0; number = 1; payload = 0x68 ∷ 0x69 ∷ [] } ∷ []
unfolding messages_of
carries_hi = refl

numbers_hi : AreNumberedFrom 0 1 (messages_of hi)
unfolding messages_of
numbers_hi = (refl, refl, tt)

-- messages of member 2 that are numbered from 5 on, and the same ones in the wrong order
numbers_two : AreNumberedFrom 2 5 (record { sender = 2; number = 5; payload = 0x68 ∷ [] } ∷ record { sender = 2; number = 6; payload = [] } ∷ [])
numbers_two = (refl, refl, (refl, refl, tt))

-- such payloads are so numbered, up to 6
payloads_two : numbered 2 5 ((0x68 ∷ []) ∷ [] ∷ []) ≡ record { sender = 2; number = 5; payload = 0x68 ∷ [] } ∷ record { sender = 2; number = 6; payload = [] } ∷ []
payloads_two = refl

ends_at_six : last_from 5 ((0x68 ∷ []) ∷ [] ∷ []) ≡ 6
ends_at_six = refl

not_in_order : AreNumberedFrom 2 5 (record { sender = 2; number = 6; payload = [] } ∷ record { sender = 2; number = 5; payload = 0x68 ∷ [] } ∷ []) → ⊥
not_in_order row = let first = row.1 in absurd cc

begins_at_one : first_number hi ≡ 1
unfolding first_number
begins_at_one = refl

ends_at_one : last_number hi ≡ 1
unfolding last_number
ends_at_one = refl

reads_hi : frame_at (0x11 ∷ 7 ∷ 0 ∷ 1 ∷ 0 ∷ 2 ∷ 0x68 ∷ 0x69 ∷ []) ≡ Ok (CastFrame hi)
unfolding frame_at head_at cast_at burst_at next_payload_at payloads_at status_at request_at pairs_at pair_at number_at
reads_hi = refl

writes_hi : text_of (CastFrame hi) ≡ 0x11 ∷ 7 ∷ 0 ∷ 1 ∷ 0 ∷ 2 ∷ 0x68 ∷ 0x69 ∷ []
unfolding text_of spelling
writes_hi = refl

reads_after_six : frame_at (0x11 ∷ 0xac ∷ 2 ∷ 2 ∷ 1 ∷ 3 ∷ 0 ∷ 3 ∷ 0 ∷ 1 ∷ 2 ∷ 2 ∷ 0 ∷ []) ≡ Ok (CastFrame after_six)
unfolding frame_at head_at cast_at burst_at next_payload_at payloads_at status_at request_at pairs_at pair_at number_at
reads_after_six = refl

-- the same member's status after 200 more of member 0
abbrev reported : StatusFields
reported = record {
  group = 300;
  sender = 2;
  values = record { field = 0; amount = 203 } ∷ record { field = 1; amount = 1 } ∷ record { field = 2; amount = 2 } ∷ record { field = 4; amount = 2 } ∷ [];
}

-- member 2 misses 2 to 3, 5 and 9 to 12 of member 0
abbrev asked : RequestFields
asked = record {
  group = 7;
  requester = 2;
  asked = 0;
  ranges = record { first = 2; last = 3 } ∷ record { first = 5; last = 5 } ∷ record { first = 9; last = 12 } ∷ [];
}

reads_reported : frame_at (0x12 ∷ 0xac ∷ 2 ∷ 2 ∷ 4 ∷ 0 ∷ 0xcb ∷ 1 ∷ 0 ∷ 1 ∷ 0 ∷ 2 ∷ 1 ∷ 2 ∷ []) ≡ Ok (StatusFrame reported)
unfolding frame_at head_at cast_at burst_at next_payload_at payloads_at status_at request_at pairs_at pair_at number_at
reads_reported = refl

writes_reported : text_of (StatusFrame reported) ≡ 0x12 ∷ 0xac ∷ 2 ∷ 2 ∷ 4 ∷ 0 ∷ 0xcb ∷ 1 ∷ 0 ∷ 1 ∷ 0 ∷ 2 ∷ 1 ∷ 2 ∷ []
unfolding text_of spelling
writes_reported = refl

reads_asked : frame_at (0x13 ∷ 7 ∷ 2 ∷ 0 ∷ 3 ∷ 1 ∷ 1 ∷ 0 ∷ 0 ∷ 2 ∷ 3 ∷ []) ≡ Ok (RequestFrame asked)
unfolding frame_at head_at cast_at burst_at next_payload_at payloads_at status_at request_at pairs_at pair_at number_at
reads_asked = refl

writes_asked : text_of (RequestFrame asked) ≡ 0x13 ∷ 7 ∷ 2 ∷ 0 ∷ 3 ∷ 1 ∷ 1 ∷ 0 ∷ 0 ∷ 2 ∷ 3 ∷ []
unfolding text_of spelling
writes_asked = refl

-- member 2 misses 1 to 2 of member 0, and asks member 1
abbrev helped : HelpFields
helped = record { group = 7; requester = 2; helper = 1; sender = 0; ranges = record { first = 1; last = 2 } ∷ [] }

reads_helped : frame_at (0x23 ∷ 7 ∷ 2 ∷ 1 ∷ 0 ∷ 1 ∷ 0 ∷ 1 ∷ []) ≡ Ok (HelpFrame helped)
unfolding frame_at help_at pairs_at pair_at number_at
reads_helped = refl

writes_helped : text_of (HelpFrame helped) ≡ 0x23 ∷ 7 ∷ 2 ∷ 1 ∷ 0 ∷ 1 ∷ 0 ∷ 1 ∷ []
unfolding text_of spelling
writes_helped = refl

-- the first two casts of member 0, "hi" and "yo", in one frame
abbrev hi_yo : CastFields
hi_yo = record { group = 7; sender = 0; number = 1; changes = []; load = Many ((0x68 ∷ 0x69 ∷ []) ∷ (0x79 ∷ 0x6f ∷ []) ∷ []) }

-- those of member 1, "a" and "b", which has delivered both
abbrev a_b : CastFields
a_b = record { group = 7; sender = 1; number = 1; changes = record { field = 0; amount = 2 } ∷ []; load = Many ((0x61 ∷ []) ∷ (0x62 ∷ []) ∷ []) }

reads_hi_yo : frame_at (0x21 ∷ 7 ∷ 0 ∷ 1 ∷ 0 ∷ 2 ∷ 2 ∷ 0x68 ∷ 0x69 ∷ 2 ∷ 0x79 ∷ 0x6f ∷ []) ≡ Ok (CastFrame hi_yo)
unfolding frame_at head_at cast_at burst_at next_payload_at payloads_at status_at request_at pairs_at pair_at number_at
reads_hi_yo = refl

writes_hi_yo : text_of (CastFrame hi_yo) ≡ 0x21 ∷ 7 ∷ 0 ∷ 1 ∷ 0 ∷ 2 ∷ 2 ∷ 0x68 ∷ 0x69 ∷ 2 ∷ 0x79 ∷ 0x6f ∷ []
unfolding text_of spelling
writes_hi_yo = refl

reads_a_b : frame_at (0x21 ∷ 7 ∷ 1 ∷ 1 ∷ 1 ∷ 0 ∷ 2 ∷ 2 ∷ 1 ∷ 0x61 ∷ 1 ∷ 0x62 ∷ []) ≡ Ok (CastFrame a_b)
unfolding frame_at head_at cast_at burst_at next_payload_at payloads_at status_at request_at pairs_at pair_at number_at
reads_a_b = refl

writes_a_b : text_of (CastFrame a_b) ≡ 0x21 ∷ 7 ∷ 1 ∷ 1 ∷ 1 ∷ 0 ∷ 2 ∷ 2 ∷ 1 ∷ 0x61 ∷ 1 ∷ 0x62 ∷ []
unfolding text_of spelling
writes_a_b = refl

carries_hi_yo : messages_of hi_yo ≡ record { sender = 0; number = 1; payload = 0x68 ∷ 0x69 ∷ [] } ∷ record { sender = 0; number = 2; payload = 0x79 ∷ 0x6f ∷ [] } ∷ []
unfolding messages_of
carries_hi_yo = refl

ends_at_two : last_number hi_yo ≡ 2
unfolding last_number
ends_at_two = refl

-- a burst of one empty payload, and the last one that there is a number for
a_burst_of_one : frame_at (0x21 ∷ 7 ∷ 0 ∷ 1 ∷ 0 ∷ 1 ∷ 0 ∷ []) ≡ Ok (CastFrame (record { group = 7; sender = 0; number = 1; changes = []; load = Many ([] ∷ []) }))
unfolding frame_at head_at cast_at burst_at next_payload_at payloads_at status_at request_at pairs_at pair_at number_at
a_burst_of_one = refl

the_last_number : frame_at (0x21 ∷ 7 ∷ 0 ∷ 255 ∷ 255 ∷ 255 ∷ 255 ∷ 15 ∷ 0 ∷ 1 ∷ 0 ∷ []) ≡ Ok (CastFrame (record { group = 7; sender = 0; number = 4294967295; changes = []; load = Many ([] ∷ []) }))
unfolding frame_at head_at cast_at burst_at next_payload_at payloads_at status_at request_at pairs_at pair_at number_at
the_last_number = refl

a_burst_of_nothing : frame_at (0x21 ∷ 7 ∷ 0 ∷ 1 ∷ 0 ∷ 0 ∷ []) ≡ Err faults.EmptyBurst
unfolding frame_at head_at cast_at burst_at next_payload_at payloads_at status_at request_at pairs_at pair_at number_at
a_burst_of_nothing = refl

a_33rd_message : frame_at (0x21 ∷ 7 ∷ 0 ∷ 1 ∷ 0 ∷ 33 ∷ []) ≡ Err faults.BurstTooLong
unfolding frame_at head_at cast_at burst_at next_payload_at payloads_at status_at request_at pairs_at pair_at number_at
a_33rd_message = refl

behind_the_last_number : frame_at (0x21 ∷ 7 ∷ 0 ∷ 255 ∷ 255 ∷ 255 ∷ 255 ∷ 15 ∷ 0 ∷ 2 ∷ []) ≡ Err faults.BurstTooLong
unfolding frame_at head_at cast_at burst_at next_payload_at payloads_at status_at request_at pairs_at pair_at number_at
behind_the_last_number = refl

a_payload_that_is_not_there : frame_at (0x21 ∷ 7 ∷ 0 ∷ 1 ∷ 0 ∷ 2 ∷ 1 ∷ 0x61 ∷ []) ≡ Err faults.Short
unfolding frame_at head_at cast_at burst_at next_payload_at payloads_at status_at request_at pairs_at pair_at number_at
a_payload_that_is_not_there = refl

a_byte_behind_a_burst : frame_at (0x21 ∷ 7 ∷ 0 ∷ 1 ∷ 0 ∷ 1 ∷ 1 ∷ 0x61 ∷ 0 ∷ []) ≡ Err faults.Trailing
unfolding frame_at head_at cast_at burst_at next_payload_at payloads_at status_at request_at pairs_at pair_at number_at
a_byte_behind_a_burst = refl

-- a new member's status
reads_nothing_delivered : frame_at (0x12 ∷ 7 ∷ 2 ∷ 0 ∷ []) ≡ Ok (StatusFrame (record { group = 7; sender = 2; values = [] }))
unfolding frame_at head_at cast_at burst_at next_payload_at payloads_at status_at request_at pairs_at pair_at number_at
reads_nothing_delivered = refl

no_bytes : frame_at [] ≡ Err faults.Short
unfolding frame_at head_at cast_at burst_at next_payload_at payloads_at status_at request_at pairs_at pair_at number_at
no_bytes = refl

another_kind : frame_at (0x14 ∷ []) ≡ Err faults.UnknownKind
unfolding frame_at head_at cast_at burst_at next_payload_at payloads_at status_at request_at pairs_at pair_at number_at
another_kind = refl

a_longer_spelling : frame_at (0x11 ∷ 0x87 ∷ 0 ∷ 0 ∷ 1 ∷ []) ≡ Err faults.NotMinimal
unfolding frame_at head_at cast_at burst_at next_payload_at payloads_at status_at request_at pairs_at pair_at number_at
a_longer_spelling = refl

above_the_greatest : frame_at (0x11 ∷ 255 ∷ 255 ∷ 255 ∷ 255 ∷ 0x1f ∷ []) ≡ Err faults.TooLarge
unfolding frame_at head_at cast_at burst_at next_payload_at payloads_at status_at request_at pairs_at pair_at number_at
above_the_greatest = refl

no_such_sender : frame_at (0x11 ∷ 7 ∷ 64 ∷ 0 ∷ []) ≡ Err faults.BadIndex
unfolding frame_at head_at cast_at burst_at next_payload_at payloads_at status_at request_at pairs_at pair_at number_at
no_such_sender = refl

message_zero : frame_at (0x11 ∷ 7 ∷ 0 ∷ 0 ∷ []) ≡ Err faults.ZeroNumber
unfolding frame_at head_at cast_at burst_at next_payload_at payloads_at status_at request_at pairs_at pair_at number_at
message_zero = refl

its_own_field : frame_at (0x11 ∷ 7 ∷ 1 ∷ 1 ∷ 1 ∷ 1 ∷ []) ≡ Err faults.OwnField
unfolding frame_at head_at cast_at burst_at next_payload_at payloads_at status_at request_at pairs_at pair_at number_at
its_own_field = refl

grows_by_nothing : frame_at (0x11 ∷ 7 ∷ 1 ∷ 1 ∷ 1 ∷ 0 ∷ 0 ∷ []) ≡ Err faults.ZeroDifference
unfolding frame_at head_at cast_at burst_at next_payload_at payloads_at status_at request_at pairs_at pair_at number_at
grows_by_nothing = refl

too_long_a_payload : frame_at (0x11 ∷ 7 ∷ 0 ∷ 1 ∷ 0 ∷ 0x81 ∷ 8 ∷ []) ≡ Err faults.PayloadTooLong
unfolding frame_at head_at cast_at burst_at next_payload_at payloads_at status_at request_at pairs_at pair_at number_at
too_long_a_payload = refl

a_byte_too_many : frame_at (0x11 ∷ 7 ∷ 0 ∷ 1 ∷ 0 ∷ 0 ∷ 0 ∷ []) ≡ Err faults.Trailing
unfolding frame_at head_at cast_at burst_at next_payload_at payloads_at status_at request_at pairs_at pair_at number_at
a_byte_too_many = refl

no_ranges : frame_at (0x13 ∷ 7 ∷ 2 ∷ 0 ∷ 0 ∷ []) ≡ Err faults.BadRange
unfolding frame_at head_at cast_at burst_at next_payload_at payloads_at status_at request_at pairs_at pair_at number_at
no_ranges = refl

a_33rd_range : frame_at (0x13 ∷ 7 ∷ 2 ∷ 0 ∷ 33 ∷ []) ≡ Err faults.BadRange
unfolding frame_at head_at cast_at burst_at next_payload_at payloads_at status_at request_at pairs_at pair_at number_at
a_33rd_range = refl

begins_above_the_greatest : frame_at (0x13 ∷ 7 ∷ 2 ∷ 0 ∷ 1 ∷ 255 ∷ 255 ∷ 255 ∷ 255 ∷ 15 ∷ []) ≡ Err faults.BadRange
unfolding frame_at head_at cast_at burst_at next_payload_at payloads_at status_at request_at pairs_at pair_at number_at
begins_above_the_greatest = refl

ends_above_the_greatest : frame_at (0x13 ∷ 7 ∷ 2 ∷ 0 ∷ 1 ∷ 0 ∷ 255 ∷ 255 ∷ 255 ∷ 255 ∷ 15 ∷ []) ≡ Err faults.BadRange
unfolding frame_at head_at cast_at burst_at next_payload_at payloads_at status_at request_at pairs_at pair_at number_at
ends_above_the_greatest = refl

help_for_nothing : frame_at (0x23 ∷ 7 ∷ 2 ∷ 1 ∷ 0 ∷ 0 ∷ []) ≡ Err faults.BadRange
unfolding frame_at help_at pairs_at pair_at number_at
help_for_nothing = refl

no_such_helper : frame_at (0x23 ∷ 7 ∷ 2 ∷ 64 ∷ []) ≡ Err faults.BadIndex
unfolding frame_at help_at pairs_at pair_at number_at
no_such_helper = refl

nobodys_casts : frame_at (0x23 ∷ 7 ∷ 2 ∷ 1 ∷ 64 ∷ []) ≡ Err faults.BadIndex
unfolding frame_at help_at pairs_at pair_at number_at
nobodys_casts = refl

a_byte_behind_a_help_frame : frame_at (0x23 ∷ 7 ∷ 2 ∷ 1 ∷ 0 ∷ 1 ∷ 0 ∷ 1 ∷ 0 ∷ []) ≡ Err faults.Trailing
unfolding frame_at help_at pairs_at pair_at number_at
a_byte_behind_a_help_frame = refl

a_value_of_nothing : frame_at (0x12 ∷ 7 ∷ 2 ∷ 1 ∷ 0 ∷ 0 ∷ []) ≡ Err faults.ZeroDifference
unfolding frame_at head_at cast_at burst_at next_payload_at payloads_at status_at request_at pairs_at pair_at number_at
a_value_of_nothing = refl

a_byte_behind_a_status : frame_at (0x12 ∷ 7 ∷ 2 ∷ 0 ∷ 0 ∷ []) ≡ Err faults.Trailing
unfolding frame_at head_at cast_at burst_at next_payload_at payloads_at status_at request_at pairs_at pair_at number_at
a_byte_behind_a_status = refl

-- ---- which field follows

a_length_behind_the_changes : cast_field (7 ∷ 1 ∷ 1 ∷ 1 ∷ 0 ∷ 3 ∷ []) ≡ Number (length_rule 0)
a_length_behind_the_changes = refl

as_many_bytes_as_it_says : cast_field (7 ∷ 0 ∷ 1 ∷ 0 ∷ 2 ∷ []) ≡ Run 2
as_many_bytes_as_it_says = refl

nothing_behind_a_payload : cast_field (7 ∷ 0 ∷ 1 ∷ 0 ∷ 2 ∷ 2 ∷ []) ≡ End
nothing_behind_a_payload = refl

a_count_behind_the_changes : burst_field (7 ∷ 1 ∷ 5 ∷ 1 ∷ 0 ∷ 3 ∷ []) ≡ Number (messages_rule 5)
a_count_behind_the_changes = refl

a_length_behind_the_count : burst_field (7 ∷ 1 ∷ 5 ∷ 0 ∷ 2 ∷ []) ≡ Number (length_rule 0)
a_length_behind_the_count = refl

the_lengths_are_added : burst_field (7 ∷ 1 ∷ 5 ∷ 0 ∷ 2 ∷ 9 ∷ 9 ∷ []) ≡ Number (length_rule 9)
the_lengths_are_added = refl

nothing_behind_the_payloads : burst_field (7 ∷ 1 ∷ 5 ∷ 0 ∷ 2 ∷ 9 ∷ 9 ∷ 0 ∷ 0 ∷ []) ≡ End
nothing_behind_the_payloads = refl

nothing_behind_the_values : status_field (7 ∷ 2 ∷ 1 ∷ 0 ∷ 3 ∷ []) ≡ End
nothing_behind_the_values = refl

nothing_behind_the_ranges : request_field (7 ∷ 2 ∷ 0 ∷ 1 ∷ 1 ∷ 1 ∷ []) ≡ End
nothing_behind_the_ranges = refl

nothing_behind_the_ranges_of_help : help_field (7 ∷ 2 ∷ 1 ∷ 0 ∷ 1 ∷ 0 ∷ 1 ∷ []) ≡ End
nothing_behind_the_ranges_of_help = refl

as_many_messages : messages_rule 1 32 ≡ None
as_many_messages = refl

one_message_more : messages_rule 1 33 ≡ Some faults.BurstTooLong
one_message_more = refl

up_to_the_last_number : messages_rule 4294967264 32 ≡ None
up_to_the_last_number = refl

one_number_more : messages_rule 4294967265 32 ≡ Some faults.BurstTooLong
one_number_more = refl

no_message : messages_rule 1 0 ≡ Some faults.EmptyBurst
no_message = refl

the_longest_payload : length_rule 0 1024 ≡ None
the_longest_payload = refl

a_longer_payload : length_rule 0 1025 ≡ Some faults.PayloadTooLong
a_longer_payload = refl

as_long_together : length_rule 1000 24 ≡ None
as_long_together = refl

longer_together : length_rule 1000 25 ≡ Some faults.PayloadTooLong
longer_together = refl

-- ---- runs, and what stands behind them

a_run_and_more : run_at 2 (0x68 ∷ 0x69 ∷ 7 ∷ []) ≡ Ok (0x68 ∷ 0x69 ∷ [], 7 ∷ [])
a_run_and_more = refl

a_run_of_nothing : run_at 0 (7 ∷ []) ≡ Ok ([], 7 ∷ [])
a_run_of_nothing = refl

a_run_that_lacks_a_byte : run_at 2 (0x68 ∷ []) ≡ Err faults.Short
a_run_that_lacks_a_byte = refl

a_payload_and_no_more : payload_at 2 (0x68 ∷ 0x69 ∷ []) ≡ Ok (0x68 ∷ 0x69 ∷ [])
a_payload_and_no_more = refl

a_payload_and_more : payload_at 2 (0x68 ∷ 0x69 ∷ 7 ∷ []) ≡ Err faults.Trailing
a_payload_and_more = refl

-- two runs, each behind its length

abbrev two_runs : List ℕ → Field
two_runs [] = Number (length_rule 0)
two_runs (n ∷ []) = Run n
two_runs (n ∷ run ∷ []) = Number (length_rule run)
two_runs (n ∷ run ∷ m ∷ []) = Run m
two_runs (n ∷ run ∷ m ∷ other ∷ more) = End

one : Spells (1 ∷ []) 1
one = record { front = []; last = 1; parts = refl; more = tt; ends = omega arith; at_most_five = omega arith; shortest = λ h. absurd (omega (arith, h)); worth = refl; fits = omega arith }

two : Spells (2 ∷ []) 2
two = record { front = []; last = 2; parts = refl; more = tt; ends = omega arith; at_most_five = omega arith; shortest = λ h. absurd (omega (arith, h)); worth = refl; fits = omega arith }

-- the first run lacks a byte
the_first_is_short : FirstFaultOf two_runs (2 ∷ 0x68 ∷ []) faults.Short
the_first_is_short = record { values = 2 ∷ []; rest = 0x68 ∷ []; good = (2 ∷ [], 0x68 ∷ [], (two, refl), refl, refl); wrong = (omega arith, refl) }

-- the second one lacks a byte; the byte of the first is no length
the_second_is_short : FirstFaultOf two_runs (1 ∷ 2 ∷ 2 ∷ 1 ∷ []) faults.Short
the_second_is_short = record {
  values = 1 ∷ 1 ∷ 2 ∷ [];
  rest = 1 ∷ [];
  good = (1 ∷ [], 2 ∷ 2 ∷ 1 ∷ [], (one, refl), refl, (2 ∷ [], 2 ∷ 1 ∷ [], (refl, refl), refl, (2 ∷ [], 1 ∷ [], (two, refl), refl, refl)));
  wrong = (omega arith, refl);
}

-- behind the first stands no length
no_second_length : FirstFaultOf two_runs (1 ∷ 0x68 ∷ []) faults.Short
no_second_length = record {
  values = 1 ∷ 1 ∷ [];
  rest = [];
  good = (1 ∷ [], 0x68 ∷ [], (one, refl), refl, (0x68 ∷ [], [], (refl, refl), refl, refl));
  wrong = inl (numbers.Short, (omega arith, tt), refl);
}

a_byte_behind_both : FirstFaultOf two_runs (1 ∷ 0x68 ∷ 1 ∷ 0x69 ∷ 0 ∷ []) faults.Trailing
a_byte_behind_both = record {
  values = 1 ∷ 1 ∷ 1 ∷ 1 ∷ [];
  rest = 0 ∷ [];
  good = (1 ∷ [], 0x68 ∷ 1 ∷ 0x69 ∷ 0 ∷ [], (one, refl), refl, (0x68 ∷ [], 1 ∷ 0x69 ∷ 0 ∷ [], (refl, refl), refl, (1 ∷ [], 0x69 ∷ 0 ∷ [], (one, refl), refl, (0x69 ∷ [], 0 ∷ [], (refl, refl), refl, refl))));
  wrong = (omega arith, refl);
}
