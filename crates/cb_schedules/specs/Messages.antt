-- What the state of a group says of messages: what was cast, what arrived, what is delivered, and the times in the bytes.
use Rattle.std.specs.Prelude.{◌≡◌, ℕ, Bool, true, ◌&&◌, ◌==◌, List, [], ◌∷◌, Result, Ok, if◌then◌else◌}
use Rattle.std.specs.List.{flat_map, list_any}
use Rattle.cb_times.specs.declared.name.Name.{Name}
use Rattle.cb_frames.specs.declared.fault.FrameFault.{FrameFault}
use Rattle.cb_frames.specs.Fields.{CastFields, FrameFields, CastFrame, Carried, messages_of}
use Rattle.cb_history.specs.Read.{frame_read}
use Rattle.cb_diffs.specs.Sent.{sent_time}
use Rattle.cb_causality.specs.Events.{Has}
use Rattle.cb_causality.specs.HappenedBefore.{Lists, Place, IsCastAt, HappenedBefore}
use Rattle.cb_causality.specs.StampedMachine.{StampedLists, erased}
use Rattle.cb_history.specs.Facts.{Fact, facts_of}
use Rattle.cb_history.specs.Events.{events}
use Rattle.cb_history.specs.Legal.{ToCast, ToTake}
use Rattle.cb_schedules.specs.Schedule.{Setting, seat_at, Asked, Calls, Answer, CastAnswer, ArrivalAnswer, GroupState}

-- ---- events

-- what the history of member k says
abbrev pub facts_at : GroupState → ℕ → List Fact
facts_at s k = facts_of (s.histories k)

-- the members' casts and deliveries, each with its time: the lists of the stamped machine
abbrev pub stamped_lists : Setting → GroupState → StampedLists
stamped_lists setting s k = events (seat_at setting k) (facts_at s k)

-- the same without times: the lists of the causal machine
abbrev pub causal_lists : Setting → GroupState → Lists
causal_lists setting s = erased (stamped_lists setting s)

-- the message was cast
abbrev pub WasCast : Setting → GroupState → Name → Type 0
WasCast setting s m = (place : Place) × IsCastAt (causal_lists setting s) place m

-- the member has delivered the message: it stands in its events, own casts included
abbrev pub HasDelivered : Setting → GroupState → ℕ → Name → Type 0
HasDelivered setting s j m = Has (causal_lists setting s j) m

-- ---- arrivals

-- the messages that bytes carry
abbrev pub messages_read : Result FrameFields FrameFault → List Carried
messages_read (Ok (CastFrame c)) = messages_of c
messages_read other = []

-- what arrived at member j by a call of member i, where these are one: its own cast, or what a cast frame carries that was accepted
-- or was a repeat
abbrev pub received_by : ℕ → Asked → Answer → List Carried
received_by j (Calls i (ToCast load)) (CastAnswer (Ok c)) = if i == j then messages_of c else []
received_by j (Calls i (ToTake bytes)) (ArrivalAnswer (Ok says)) = if i == j then messages_read (frame_read bytes) else []
received_by j asked answer = []

-- the messages that have arrived at member j, by the outcomes alone; one that came again stands here again
abbrev pub arrived_at : GroupState → ℕ → List Carried
arrived_at s j = flat_map (λ outcome. received_by j outcome.asked outcome.answer) s.outcomes

-- the message has arrived
abbrev pub has_arrived : GroupState → ℕ → Name → Bool
has_arrived s j m = list_any (λ x. x.sender == m.sender && x.number == m.number) (arrived_at s j)

-- A closed arrival at member j: it and everything that happened before it have arrived there.
pub record IsClosedArrival (setting : Setting) (s : GroupState) (j : ℕ) (m : Name) : Type 0 where
  pub arrived : has_arrived s j m ≡ true
  pub past : (earlier : Name) → HappenedBefore (causal_lists setting s) earlier m → has_arrived s j earlier ≡ true

-- ---- times

-- the cast frame that bytes are
abbrev pub cast_read : Result FrameFields FrameFault → List CastFields
cast_read (Ok (CastFrame c)) = c ∷ []
cast_read other = []

-- the cast frames among all frames that were sent, read from their bytes; one that was sent again stands here again
abbrev pub sent_casts : GroupState → List CastFields
sent_casts s = flat_map (λ frame. cast_read (frame_read frame.bytes)) s.sent

-- the vector time of a message, from the bytes of the sent cast frames and from nothing else
abbrev pub time_from_bytes : Setting → GroupState → Name → List ℕ
time_from_bytes setting s m = sent_time setting.group.size (sent_casts s) m.sender m.number
