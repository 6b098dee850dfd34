-- What is copied and shown, by worked examples.
use Rattle.std.proofs.Common.{◌≡◌, ℕ, [], ◌∷◌, true, false, refl, arith}
use Rattle.std.specs.Prelude.{Some, None}
use Rattle.cb_history.specs.declared.answer.Outgoing.{Outgoing}
use Rattle.cb_delay.specs.declared.message.Event.TheVariants.{Cast, Deliver}
use Rattle.cb_delay.specs.declared.message.Message.{Message}
use Rattle.cb_history.specs.Answers.{Accepted, Repeat}
use Rattle.cb_history.specs.Facts.{CastEntry, ArriveEntry, TickEntry}
use Rattle.cb_handle.specs.declared.rows.FrameHead.{FrameHead}
use Rattle.cb_handle.specs.Copies.{placed, copied, AreMost}
use Rattle.cb_handle.specs.Frames.{frame_head, bytes_in, FramesFit}
use Rattle.cb_handle.specs.Events.{event_head}
use Rattle.cb_handle.specs.Entries.{entry_head}
use Rattle.cb_handle.specs.declared.held.Held.{Held}
use Rattle.cb_handle.specs.Calling.{loaded_part, received_row, with_loaded}
use Rattle.cb_handle.specs.Payloads.{payloads_in}

a_short_list_leaves_the_rest : copied {X = ℕ} (1 ∷ 2 ∷ []) (7 ∷ 8 ∷ 9 ∷ []) ≡ 1 ∷ 2 ∷ 9 ∷ []
a_short_list_leaves_the_rest = refl

of_a_long_list_the_front_is_copied : copied {X = ℕ} (1 ∷ 2 ∷ 3 ∷ []) (7 ∷ 8 ∷ []) ≡ 1 ∷ 2 ∷ []
of_a_long_list_the_front_is_copied = refl

what_fits_is_placed : placed {X = ℕ} (1 ∷ 2 ∷ []) (7 ∷ 8 ∷ 9 ∷ []) ≡ 1 ∷ 2 ∷ 9 ∷ []
what_fits_is_placed = refl

abbrev to_all : Outgoing
to_all = record { to = None; bytes = 0x12 ∷ 7 ∷ 2 ∷ 0 ∷ [] }

abbrev to_member_5 : Outgoing
to_member_5 = record { to = Some 5; bytes = 0x13 ∷ 7 ∷ 2 ∷ [] }

a_status_goes_to_all : frame_head to_all ≡ record { to_all = true; to = 0; length = 4 }
a_status_goes_to_all = refl

a_request_goes_to_one : frame_head to_member_5 ≡ record { to_all = false; to = 5; length = 3 }
a_request_goes_to_one = refl

bytes_lie_one_after_another : bytes_in (to_all ∷ to_member_5 ∷ []) ≡ 0x12 ∷ 7 ∷ 2 ∷ 0 ∷ 0x13 ∷ 7 ∷ 2 ∷ []
bytes_lie_one_after_another = refl

abbrev head : FrameHead
head = record { to_all = false; to = 0; length = 0 }

-- of 7 bytes in two frames, 6 hold the first frame alone
six_bytes_hold_one_frame : AreMost (FramesFit (to_all ∷ to_member_5 ∷ []) (head ∷ head ∷ []) (0 ∷ 0 ∷ 0 ∷ 0 ∷ 0 ∷ 0 ∷ [])) 2 1
six_bytes_hold_one_frame = record {
  upto = omega arith;
  fit = record { heads_fit = omega arith; bytes_fit = omega arith };
  no_more = λ _ more. omega (arith, more.bytes_fit);
}

abbrev hi : Message
hi = record { name = record { sender = 0; number = 1 }; time = 1 ∷ 0 ∷ []; payload = 104 ∷ 105 ∷ [] }

an_own_cast : event_head (Cast hi) ≡ record { is_own = true; sender = 0; number = 1; length = 2 }
an_own_cast = refl

a_delivery : event_head (Deliver hi) ≡ record { is_own = false; sender = 0; number = 1; length = 2 }
a_delivery = refl

an_entered_cast : entry_head (CastEntry (0x11 ∷ 7 ∷ [])) ≡ record { kind = 0; length = 2; delivered = 0 }
an_entered_cast = refl

an_entered_arrival : entry_head (ArriveEntry (0x11 ∷ 7 ∷ []) (hi.name ∷ [])) ≡ record { kind = 1; length = 2; delivered = 1 }
an_entered_arrival = refl

an_entered_status : entry_head (TickEntry (0x12 ∷ [])) ≡ record { kind = 2; length = 1; delivered = 0 }
an_entered_status = refl

a_delivery_is_told : received_row (Accepted (hi ∷ []) true []) ≡ record { is_repeat = false; is_entered = true; delivered = 1 }
a_delivery_is_told = refl

a_repeat_is_told : received_row Repeat ≡ record { is_repeat = true; is_entered = false; delivered = 0 }
a_repeat_is_told = refl

a_part_of_what_is_loaded : (held : Held) → loaded_part (with_loaded held (5 ∷ 6 ∷ 7 ∷ 8 ∷ 9 ∷ [])) 1 3 ≡ 6 ∷ 7 ∷ 8 ∷ []
a_part_of_what_is_loaded held = refl

payloads_lie_one_after_another : payloads_in (1 ∷ 2 ∷ 3 ∷ 4 ∷ 5 ∷ []) (2 ∷ 0 ∷ 1 ∷ []) ≡ (1 ∷ 2 ∷ []) ∷ [] ∷ (3 ∷ []) ∷ []
payloads_lie_one_after_another = refl
