-- What is true of the frames that were sent, of the answers, and of what members know of each other, after every schedule.
use Rattle.std.specs.Prelude.{◌≡◌, ◌≢◌, ℕ, ◌+◌, ◌<◌, ◌≤◌, Some, None, Result, Ok, Err, slice_get}
use Rattle.std.specs.List.{AllByRecursion}
use Rattle.cb_frames.specs.Fields.{CastFields, StatusFields, RequestFields, HelpFields, CastFrame, StatusFrame, RequestFrame, HelpFrame, Carried, first_number, last_number}
use Rattle.cb_frames.specs.Text.{text_of}
use Rattle.cb_history.specs.Read.{frame_read}
use Rattle.cb_delay.specs.declared.message.Event.{Event}
use Rattle.cb_causality.specs.StampedMachine.{counts_of}
use Rattle.cb_delay.specs.Message.{message_of}
use Rattle.cb_history.specs.declared.answer.ArriveRefusal.{ArriveRefusal}
use Rattle.cb_history.specs.declared.answer.ArriveRefusal.TheVariants.{HistoryFull}
use Rattle.cb_history.specs.Facts.{casts_in}
use Rattle.cb_history.specs.View.{expanded_in, view, next_delivery}
use Rattle.cb_history.specs.NameLaws.{IsOneOf}
use Rattle.cb_diffs.specs.Expansion.{expanded_field}
use Rattle.cb_history.specs.Answers.{delivered, own_casts, ArrivalSays}
use Rattle.cb_history.specs.Known.{known, acknowledged_of, acknowledged, stable_of, stable}
use Rattle.cb_history.specs.BufferLaws.{IsCastOf}
use Rattle.cb_schedules.specs.Schedule.{Setting, seat_at, SentFrame, Answer, ArrivalAnswer, GroupState}
use Rattle.cb_schedules.specs.Messages.{facts_at, stamped_lists, time_from_bytes}
use Rattle.cb_schedules.specs.Honest.{IsReported}

-- ---- frames that were sent

-- the frame was sent
abbrev pub WasSent : GroupState → SentFrame → Type 0
WasSent s frame = (number : ℕ) × (slice_get s.sent number ≡ Some frame)

-- every cast frame that was sent is, byte for byte, an own cast of its sender
abbrev pub SentCastsAreOwn : Setting → GroupState → Type 0
SentCastsAreOwn setting s =
    (frame : SentFrame) (c : CastFields) → WasSent s frame → frame_read frame.bytes ≡ Ok (CastFrame c)
    → IsCastOf c (own_casts (facts_at s c.sender)) × (frame.bytes ≡ text_of (CastFrame c))

-- the cast holds the name of its sender's message with this number
abbrev pub HoldsNumber : CastFields → ℕ → Type 0
HoldsNumber c n = (first_number c ≤ n) × (n ≤ last_number c)

-- so cast frames that hold one name, each perhaps beside others, have the same bytes
abbrev pub OneNameSameBytes : Setting → GroupState → Type 0
OneNameSameBytes setting s =
    (frame other : SentFrame) (c d : CastFields) (n : ℕ) → WasSent s frame → WasSent s other → frame_read frame.bytes ≡ Ok (CastFrame c) → frame_read other.bytes ≡ Ok (CastFrame d)
    → c.sender ≡ d.sender → HoldsNumber c n → HoldsNumber d n → frame.bytes ≡ other.bytes

-- every status that was sent says of each member no more than its sender has delivered, and nobody asks itself
abbrev pub SentStatusesAreSo : Setting → GroupState → Type 0
SentStatusesAreSo setting s = (frame : SentFrame) (t : StatusFields) → WasSent s frame → frame_read frame.bytes ≡ Ok (StatusFrame t) → IsReported setting.group (facts_at s) t

abbrev pub NobodyAsksItself : Setting → GroupState → Type 0
NobodyAsksItself setting s =
    (frame : SentFrame) (r : RequestFields) → WasSent s frame → frame_read frame.bytes ≡ Ok (RequestFrame r)
    → (r.requester < setting.group.size) × (r.asked < setting.group.size) × (r.requester ≢ r.asked)

-- every help frame that was sent names three different members of the group
abbrev pub HelpersAreThird : Setting → GroupState → Type 0
HelpersAreThird setting s =
    (frame : SentFrame) (h : HelpFields) → WasSent s frame → frame_read frame.bytes ≡ Ok (HelpFrame h)
    → (h.requester < setting.group.size) × (h.helper < setting.group.size) × (h.sender < setting.group.size)
    × (h.requester ≢ h.helper) × (h.requester ≢ h.sender) × (h.helper ≢ h.sender)

-- ---- what was received

-- every cast that is there with a member is an own cast of its sender
abbrev pub CastsThereAreOwn : Setting → GroupState → Type 0
CastsThereAreOwn setting s = (j : ℕ) (c : CastFields) → IsCastOf c (casts_in (facts_at s j)) → IsCastOf c (own_casts (facts_at s c.sender))

-- each event's time is the time from the bytes
abbrev pub EventsHaveTimesFromBytes : Setting → GroupState → Type 0
EventsHaveTimesFromBytes setting s =
    (j index : ℕ) (event : Event) → slice_get (stamped_lists setting s j) index ≡ Some event → (message_of event).time ≡ time_from_bytes setting s (message_of event).name

-- no member has a message left that is ready
abbrev pub NothingReadyIsLeftAnywhere : Setting → GroupState → Type 0
NothingReadyIsLeftAnywhere setting s =
    (j : ℕ) → next_delivery setting.group.size (casts_in (facts_at s j)) (view setting.group.size (facts_at s j)) ≡ None

-- ---- what members know

-- of how many casts of a sender a member knows that another has delivered them, that one has delivered at least as many
abbrev pub AcknowledgedOfIsDeliveredThere : Setting → GroupState → Type 0
AcknowledgedOfIsDeliveredThere setting s =
    (j k i : ℕ) → j < setting.group.size → i < setting.group.size → acknowledged_of (seat_at setting j) (facts_at s j) k i ≤ delivered (seat_at setting k) (facts_at s k) i

-- so of its own casts
abbrev pub AcknowledgedIsDeliveredThere : Setting → GroupState → Type 0
AcknowledgedIsDeliveredThere setting s =
    (i k : ℕ) → i < setting.group.size → acknowledged (seat_at setting i) (facts_at s i) k ≤ delivered (seat_at setting k) (facts_at s k) i

-- what a member knows to be stable of the casts of i, every member other than i has delivered, that member itself too
abbrev pub StableOfIsDeliveredEverywhere : Setting → GroupState → Type 0
StableOfIsDeliveredEverywhere setting s =
    (j i k : ℕ) → j < setting.group.size → i < setting.group.size → k < setting.group.size → k ≢ i
    → stable_of (seat_at setting j) (facts_at s j) i ≤ delivered (seat_at setting k) (facts_at s k) i

-- so each member's list of events, also that of i, has at least as many messages of i
abbrev pub StableOfStandsInEvents : Setting → GroupState → Type 0
StableOfStandsInEvents setting s =
    (j i k : ℕ) → j < setting.group.size → i < setting.group.size → k < setting.group.size
    → stable_of (seat_at setting j) (facts_at s j) i ≤ counts_of (stamped_lists setting s k) i

-- what a sender knows to be stable, every other member has delivered: nobody misses what is trimmed
abbrev pub StableIsDeliveredEverywhere : Setting → GroupState → Type 0
StableIsDeliveredEverywhere setting s =
    (i j : ℕ) → i < setting.group.size → j < setting.group.size → j ≢ i → stable (seat_at setting i) (facts_at s i) ≤ delivered (seat_at setting j) (facts_at s j) i

-- so each member's list of events, its own too, has at least as many messages of the sender
abbrev pub StableStandsInEvents : Setting → GroupState → Type 0
StableStandsInEvents setting s =
    (i j : ℕ) → i < setting.group.size → j < setting.group.size → stable (seat_at setting i) (facts_at s i) ≤ counts_of (stamped_lists setting s j) i

-- so a sender has cast at most a window more than each other member has delivered of it
abbrev pub SendersStayNear : Setting → GroupState → Type 0
SendersStayNear setting s =
    (i j : ℕ) → i < setting.group.size → j < setting.group.size
    → delivered (seat_at setting i) (facts_at s i) i ≤ delivered (seat_at setting j) (facts_at s j) i + setting.group.window

-- what a member has heard of another's casts, that one has cast: nothing is asked for that is not
abbrev pub HeardOfIsCast : Setting → GroupState → Type 0
HeardOfIsCast setting s =
    (j i : ℕ) → j < setting.group.size → i < setting.group.size → known (facts_at s j) i ≤ delivered (seat_at setting i) (facts_at s i) i

-- nobody has delivered more of a member's messages than it has cast
abbrev pub DeliveredIsCast : Setting → GroupState → Type 0
DeliveredIsCast setting s =
    (j i : ℕ) → j < setting.group.size → i < setting.group.size
    → delivered (seat_at setting j) (facts_at s j) i ≤ delivered (seat_at setting i) (facts_at s i) i

-- no time that a member can compute says more of its own casts than it made
abbrev pub TimesTellOwnCasts : Setting → GroupState → Type 0
TimesTellOwnCasts setting s =
    (j : ℕ) (m : Carried) → IsOneOf m (expanded_in (casts_in (facts_at s j)))
    → expanded_field (casts_in (facts_at s j)) m.sender m.number j ≤ delivered (seat_at setting j) (facts_at s j) j

-- ---- answers

-- no refusal of an arrival but that the history is full
abbrev pub IsNoRefusal : Result ArrivalSays ArriveRefusal → Type 0
IsNoRefusal (Ok says) = Unit {0}
IsNoRefusal (Err refusal) = refusal ≡ HistoryFull

abbrev pub IsRefusedByFullHistoryAlone : Answer → Type 0
IsRefusedByFullHistoryAlone (ArrivalAnswer r) = IsNoRefusal r
IsRefusedByFullHistoryAlone other = Unit {0}

-- No arrival is answered Malformed, OtherGroup, BadMember, Impossible, Overlap or TooFar: the one refusal that there is says that the
-- history is full.
abbrev pub ArrivalsAreWelcome : Setting → GroupState → Type 0
ArrivalsAreWelcome setting s = AllByRecursion (λ outcome. IsRefusedByFullHistoryAlone outcome.answer) s.outcomes
