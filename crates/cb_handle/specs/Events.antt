-- What is shown of events.
use Rattle.std.specs.Prelude.{◌≡◌, ℕ, ◌≤◌, List, length, map, take}
use Rattle.std.specs.List.{flat_map}
use Rattle.cb_delay.specs.declared.message.Event.{Event}
use Rattle.cb_delay.specs.Message.{message_of}
use Rattle.cb_member.specs.Kept.{is_own}
use Rattle.cb_handle.specs.declared.rows.EventHead.{EventHead}
use Rattle.cb_handle.specs.Copies.{placed, copied, AreMost}

abbrev pub event_head : Event → EventHead
event_head event = record {
  is_own = is_own event;
  sender = (message_of event).name.sender;
  number = (message_of event).name.number;
  length = length (message_of event).payload;
}

-- one event: its head, and its payload and its time over what was there
pub record ShowsEvent (event : Event) (head : EventHead) (payload new_payload time new_time : List ℕ) : Type 0 where
  pub head_is : head ≡ event_head event
  pub payload_is : new_payload ≡ copied (message_of event).payload payload
  pub time_is : new_time ≡ copied (message_of event).time time

abbrev pub payloads_in : List Event → List ℕ
payloads_in events = flat_map (λ event. (message_of event).payload) events

abbrev pub times_in : List Event → List ℕ
times_in events = flat_map (λ event. (message_of event).time) events

-- the first so many have place in these
pub record EventsFit (events : List Event) (heads : List EventHead) (payloads times : List ℕ) (count : ℕ) : Type 0 where
  pub heads_fit : count ≤ length heads
  pub payloads_fit : length (payloads_in (take count events)) ≤ length payloads
  pub times_fit : length (times_in (take count events)) ≤ length times

-- the first events, as many as fit: their heads, and their payloads and times one after another
pub record ShowsEvents (events : List Event) (heads new_heads : List EventHead) (payloads new_payloads times new_times : List ℕ) (count : ℕ) : Type 0 where
  pub most : AreMost (EventsFit events heads payloads times) (length events) count
  pub heads_are : new_heads ≡ placed (map event_head (take count events)) heads
  pub payloads_are : new_payloads ≡ placed (payloads_in (take count events)) payloads
  pub times_are : new_times ≡ placed (times_in (take count events)) times
