-- The frames and the events that are shown so far, in the loops that show as many as fit.
use Rattle.std.proofs.Common.{◌≡◌, ℕ, ◌+◌, ◌<◌, ◌≤◌, List, ◌++◌, length, map, take, drop, get_or, refl, subst, arith}
use lib.ListN.{set}
use Rattle.cb_history.specs.declared.answer.Outgoing.{Outgoing}
use Rattle.cb_delay.specs.declared.message.Event.{Event}
use Rattle.cb_delay.specs.Message.{message_of}
use Rattle.cb_handle.specs.declared.rows.FrameHead.{FrameHead}
use Rattle.cb_handle.specs.declared.rows.EventHead.{EventHead}
use Rattle.cb_handle.specs.Copies.{placed}
use Rattle.cb_handle.specs.Frames.{frame_head, bytes_in, FramesFit}
use Rattle.cb_handle.specs.Events.{event_head, payloads_in, times_in, EventsFit}
use Rattle.cb_handle.proofs.Placing.{heads_more, end_more, parts_more}

-- so many frames are shown, up to this end of the bytes
pub record FramesShown (frames : List Outgoing) (heads new_heads : List FrameHead) (bytes new_bytes : List ℕ) (count end : ℕ) : Type 0 where
  pub fit : FramesFit frames heads bytes count
  pub end_is : end ≡ length (bytes_in (take count frames))
  pub heads_are : new_heads ≡ placed (map frame_head (take count frames)) heads
  pub bytes_are : new_bytes ≡ placed (bytes_in (take count frames)) bytes

pub no_frames : (frames : List Outgoing) (heads : List FrameHead) (bytes : List ℕ) → FramesShown frames heads heads bytes bytes 0 0
no_frames frames heads bytes = record { fit = record { heads_fit = omega arith; bytes_fit = omega arith }; end_is = refl; heads_are = refl; bytes_are = refl }

pub one_frame_more : (frames : List Outgoing) (heads new_heads : List FrameHead) (bytes new_bytes : List ℕ) (count end : ℕ) (frame : Outgoing)
    → FramesShown frames heads new_heads bytes new_bytes count end → count < length frames → frame ≡ get_or frames count frame
    → count < length heads → end + length frame.bytes ≤ length bytes
    → FramesShown frames heads (set new_heads count (frame_head frame)) bytes
    ((take end new_bytes ++ frame.bytes) ++ drop (end + length frame.bytes) new_bytes) (count + 1) (end + length frame.bytes)
one_frame_more frames heads new_heads bytes new_bytes count end frame shown h is_frame room fits =
    let e : end + length frame.bytes ≡ length (bytes_in (take (count + 1) frames)) = end_more (λ f. f.bytes) frames count end frame h is_frame shown.end_is in
    record {
      fit = record { heads_fit = omega (arith, room); bytes_fit = subst (λ k. k ≤ length bytes) e fits };
      end_is = e;
      heads_are = heads_more frame_head frames new_heads heads count frame h is_frame room shown.heads_are;
      bytes_are = parts_more (λ f. f.bytes) frames new_bytes bytes count end frame h is_frame shown.end_is shown.bytes_are;
    }

-- so many events are shown, up to these ends of the payloads and the times
pub record EventsShown (events : List Event) (heads new_heads : List EventHead) (payloads new_payloads times new_times : List ℕ)
    (count end times_end : ℕ) : Type 0 where
  pub fit : EventsFit events heads payloads times count
  pub end_is : end ≡ length (payloads_in (take count events))
  pub times_end_is : times_end ≡ length (times_in (take count events))
  pub heads_are : new_heads ≡ placed (map event_head (take count events)) heads
  pub payloads_are : new_payloads ≡ placed (payloads_in (take count events)) payloads
  pub times_are : new_times ≡ placed (times_in (take count events)) times

pub no_events : (events : List Event) (heads : List EventHead) (payloads times : List ℕ) → EventsShown events heads heads payloads payloads times times 0 0 0
no_events events heads payloads times = record {
  fit = record { heads_fit = omega arith; payloads_fit = omega arith; times_fit = omega arith };
  end_is = refl;
  times_end_is = refl;
  heads_are = refl;
  payloads_are = refl;
  times_are = refl;
}

pub one_event_more : (events : List Event) (heads new_heads : List EventHead) (payloads new_payloads times new_times : List ℕ)
    (count end times_end : ℕ) (event : Event)
    → EventsShown events heads new_heads payloads new_payloads times new_times count end times_end
    → count < length events → event ≡ get_or events count event → count < length heads
    → end + length (message_of event).payload ≤ length payloads → times_end + length (message_of event).time ≤ length times
    → EventsShown events heads (set new_heads count (event_head event)) payloads
    ((take end new_payloads ++ (message_of event).payload) ++ drop (end + length (message_of event).payload) new_payloads) times
    ((take times_end new_times ++ (message_of event).time) ++ drop (times_end + length (message_of event).time) new_times)
    (count + 1) (end + length (message_of event).payload) (times_end + length (message_of event).time)
one_event_more events heads new_heads payloads new_payloads times new_times count end times_end event shown h is_event room fits times_fit =
    let e : end + length (message_of event).payload ≡ length (payloads_in (take (count + 1) events)) =
    end_more (λ x. (message_of x).payload) events count end event h is_event shown.end_is in
    let f : times_end + length (message_of event).time ≡ length (times_in (take (count + 1) events)) =
    end_more (λ x. (message_of x).time) events count times_end event h is_event shown.times_end_is in
    record {
      fit = record {
        heads_fit = omega (arith, room);
        payloads_fit = subst (λ k. k ≤ length payloads) e fits;
        times_fit = subst (λ k. k ≤ length times) f times_fit;
      };
      end_is = e;
      times_end_is = f;
      heads_are = heads_more event_head events new_heads heads count event h is_event room shown.heads_are;
      payloads_are = parts_more (λ x. (message_of x).payload) events new_payloads payloads count end event h is_event shown.end_is shown.payloads_are;
      times_are = parts_more (λ x. (message_of x).time) events new_times times count times_end event h is_event shown.times_end_is shown.times_are;
    }
