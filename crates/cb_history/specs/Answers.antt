-- What a member answers, as a function of its history. Every quantity is that of the view or of what is known.
use Rattle.std.specs.Prelude.{ℕ, ◌+◌, Bool, true, false, ◌&&◌, ◌||◌, not, ◌==◌, nat_le, nat_lt, List, [], ◌∷◌, ◌++◌, length, take, drop, map, filter, Option, Some, None, Result, Ok, Err, if◌then◌else◌}
use Rattle.std.specs.List.{list_any, list_all, range_with_len, flat_map}
use Rattle.cb_frames.specs.declared.frame.TheConstants.{LONGEST_PAYLOAD, MOST_FRAMES, MOST_MESSAGES, MOST_RANGES, LAST_NUMBER}
use Rattle.cb_frames.specs.declared.frame.Range.{Range}
use Rattle.cb_frames.specs.declared.fault.FrameFault.{FrameFault}
use Rattle.cb_frames.specs.Fields.{Load, payloads_of, load_bytes, CastFields, StatusFields, FrameFields, CastFrame, StatusFrame, RequestFrame, HelpFrame, messages_of, first_number, last_number}
use Rattle.cb_frames.specs.Text.{text_of}
use Rattle.cb_history.specs.Read.{frame_read}
use Rattle.cb_delay.specs.declared.message.Message.{Message}
use Rattle.cb_diffs.specs.Differences.{differences}
use Rattle.cb_history.specs.declared.answer.Arrival.{Arrival}
use Rattle.cb_history.specs.declared.answer.Arrival.TheVariants as reported
use Rattle.cb_history.specs.declared.answer.ArriveRefusal.{ArriveRefusal}
use Rattle.cb_history.specs.declared.answer.ArriveRefusal.TheVariants as arrivals
use Rattle.cb_history.specs.declared.answer.TickRefusal.{TickRefusal}
use Rattle.cb_history.specs.declared.answer.TickRefusal.TheVariants as ticks
use Rattle.cb_history.specs.declared.answer.CastDone.{CastDone}
use Rattle.cb_history.specs.declared.answer.BurstDone.{BurstDone}
use Rattle.cb_history.specs.declared.answer.Outgoing.{Outgoing}
use Rattle.cb_history.specs.CastFault.{CastFault, EmptyBurst, BurstTooLong, PayloadTooLong, WindowFull, HistoryFull}
use Rattle.cb_history.specs.Group.{Identity}
use Rattle.cb_history.specs.Facts.{EntryFields, Fact, OwnCast, CastReceived, StatusReceived, OwnStatus, facts_of, casts_in, is_there}
use Rattle.cb_history.specs.View.{count, view, counts, time_of, message_in}
use Rattle.cb_history.specs.Known.{value_in, known, missing, ranges_of, acknowledged_of, stable}
use Rattle.cb_history.specs.Helping.{handed_on}

-- how many messages of member k the member has delivered, its own casts included
abbrev pub delivered : Identity → List Fact → ℕ → ℕ
delivered seat facts k = count (view seat.group.size facts) k

-- no entry is left
abbrev pub is_full : ℕ → List EntryFields → Bool
is_full limit entries = nat_le limit (length entries)

-- ---- casting

abbrev pub is_own_cast : Fact → Bool
is_own_cast (OwnCast c) = true
is_own_cast (CastReceived c) = false
is_own_cast (StatusReceived s) = false
is_own_cast (OwnStatus s) = false

-- the facts up to the last own cast
abbrev pub upto_last_cast : List Fact → List Fact
upto_last_cast [] = []
upto_last_cast (f ∷ facts) = if list_any is_own_cast (f ∷ facts) then f ∷ upto_last_cast facts else []

-- The next own cast. Its changes are by how much the view grew since the last own cast.
abbrev pub next_cast : Identity → List Fact → Load → CastFields
next_cast seat facts load = record {
  group = seat.group.number;
  sender = seat.me;
  number = delivered seat facts seat.me + 1;
  changes = differences (time_of seat.group.size (upto_last_cast facts)) (time_of seat.group.size facts) seat.me;
  load = load;
}

-- with n messages more, more own ones than the window would not be known to be delivered everywhere, or some would have no number
abbrev pub is_too_many : Identity → List Fact → ℕ → Bool
is_too_many seat facts n =
    nat_lt (stable seat facts + seat.group.window) (delivered seat facts seat.me + n) || nat_lt LAST_NUMBER (delivered seat facts seat.me + n)

-- one is too many
abbrev pub is_window_full : Identity → List Fact → Bool
is_window_full seat facts = is_too_many seat facts 1

-- The frame of the cast, or why there is none.
unfoldable pub cast_answer : Identity → ℕ → List EntryFields → Load → Result CastFields CastFault
cast_answer seat limit entries load =
    if length (payloads_of load) == 0 then Err EmptyBurst else
    if nat_lt MOST_MESSAGES (length (payloads_of load)) then Err BurstTooLong else
    if nat_lt LONGEST_PAYLOAD (length (load_bytes load)) then Err PayloadTooLong else
    if is_too_many seat (facts_of entries) (length (payloads_of load)) then Err WindowFull else
    if is_full limit entries then Err HistoryFull else
    Ok (next_cast seat (facts_of entries) load)

-- what the caller gets of it: its first name, the view's counts with its first message, and its frame
abbrev pub cast_done : Identity → List Fact → CastFields → CastDone
cast_done seat facts c = record {
  name = record { sender = seat.me; number = first_number c };
  time = counts seat.group.size (view seat.group.size facts ++ take 1 (messages_of c));
  out = text_of (CastFrame c);
}

-- of a burst: how many messages there are beside the name and the time of the first
abbrev pub burst_done : Identity → List Fact → CastFields → BurstDone
burst_done seat facts c = record {
  first = record { sender = seat.me; number = first_number c };
  count = length (payloads_of c.load);
  time = counts seat.group.size (view seat.group.size facts ++ take 1 (messages_of c));
  out = text_of (CastFrame c);
}

-- ---- an arrival

-- the members and fields in the frame are of the group
abbrev pub are_members : ℕ → FrameFields → Bool
are_members size (CastFrame c) = nat_lt c.sender size && list_all (λ d. nat_lt d.field size) c.changes
are_members size (StatusFrame s) = nat_lt s.sender size && list_all (λ d. nat_lt d.field size) s.values
are_members size (RequestFrame r) = nat_lt r.requester size && nat_lt r.asked size
are_members size (HelpFrame h) = nat_lt h.requester size && nat_lt h.helper size && nat_lt h.sender size

abbrev pub group_of : FrameFields → ℕ
group_of (CastFrame c) = c.group
group_of (StatusFrame s) = s.group
group_of (RequestFrame r) = r.group
group_of (HelpFrame h) = h.group

-- The frame says of this member what it never did: a cast that it did not make, a time of its own that it has not reached, or more
-- deliveries of its casts than it made. Or the asked member asks itself, or a help frame names one member twice.
abbrev pub is_impossible : Identity → List Fact → FrameFields → Bool
is_impossible seat facts (CastFrame c) = c.sender == seat.me && nat_lt (delivered seat facts seat.me) (last_number c)
is_impossible seat facts (StatusFrame s) =
    if s.sender == seat.me then list_any (λ d. nat_lt (delivered seat facts d.field) d.amount) s.values else
    nat_lt (delivered seat facts seat.me) (value_in s.values seat.me)
is_impossible seat facts (RequestFrame r) = r.requester == r.asked
is_impossible seat facts (HelpFrame h) = h.requester == h.helper || h.requester == h.sender || h.helper == h.sender

-- a cast all of whose messages are there: own ones, expanded ones, kept ones
abbrev pub is_repeat : List Fact → FrameFields → Bool
is_repeat facts (CastFrame c) = list_all (λ m. is_there (casts_in facts) m.sender m.number) (messages_of c)
is_repeat facts (StatusFrame s) = false
is_repeat facts (RequestFrame r) = false
is_repeat facts (HelpFrame h) = false

-- a cast some message of which is there; no repeat, it has others that are not
abbrev pub is_overlap : List Fact → FrameFields → Bool
is_overlap facts (CastFrame c) = list_any (λ m. is_there (casts_in facts) m.sender m.number) (messages_of c)
is_overlap facts (StatusFrame s) = false
is_overlap facts (RequestFrame r) = false
is_overlap facts (HelpFrame h) = false

-- beyond the window above what is delivered
abbrev pub is_too_far : Identity → List Fact → FrameFields → Bool
is_too_far seat facts (CastFrame c) = nat_lt (delivered seat facts c.sender + seat.group.window) (last_number c)
is_too_far seat facts (StatusFrame s) = false
is_too_far seat facts (RequestFrame r) = false
is_too_far seat facts (HelpFrame h) = false

-- a status of another that raises what is known of the casts of some other than this member, or what is known that its own sender
-- has delivered of some other's casts
abbrev pub is_news : Identity → List Fact → StatusFields → Bool
is_news seat facts s =
    not (s.sender == seat.me)
    && (list_any (λ k. not (k == seat.me) && nat_lt (known facts k) (value_in s.values k)) (range_with_len 0 seat.group.size)
    || list_any (λ i. not (i == s.sender) && nat_lt (acknowledged_of seat facts s.sender i) (value_in s.values i)) (range_with_len 0 seat.group.size))

-- the frame, which is neither refused so far nor a repeat, would change the state
abbrev pub is_change : Identity → List Fact → FrameFields → Bool
is_change seat facts (CastFrame c) = true
is_change seat facts (StatusFrame s) = is_news seat facts s
is_change seat facts (RequestFrame r) = false
is_change seat facts (HelpFrame h) = false

-- the facts with this frame
abbrev pub with_frame : List Fact → FrameFields → List Fact
with_frame facts (CastFrame c) = facts ++ CastReceived c ∷ []
with_frame facts (StatusFrame s) = facts ++ StatusReceived s ∷ []
with_frame facts (RequestFrame r) = facts
with_frame facts (HelpFrame h) = facts

-- the messages that are delivered by it
abbrev pub deliveries : Identity → List Fact → FrameFields → List Message
deliveries seat facts frame =
    map (message_in seat.group.size (casts_in (with_frame facts frame)))
    (drop (length (view seat.group.size facts)) (view seat.group.size (with_frame facts frame)))

-- the own cast frames that not every other member is known to have delivered
abbrev pub own_casts : List Fact → List CastFields
own_casts [] = []
own_casts (OwnCast c ∷ facts) = c ∷ own_casts facts
own_casts (CastReceived c ∷ facts) = own_casts facts
own_casts (StatusReceived s ∷ facts) = own_casts facts
own_casts (OwnStatus s ∷ facts) = own_casts facts

abbrev pub window : Identity → List Fact → List CastFields
window seat facts = filter (λ c. nat_lt (stable seat facts) (last_number c)) (own_casts facts)

-- some message of the cast is asked for
abbrev pub is_asked_for : List Range → CastFields → Bool
is_asked_for ranges c = list_any (λ m. list_any (λ r. nat_le r.first m.number && nat_le m.number r.last) ranges) (messages_of c)

-- What is sent in answer: to a request at the asked member the first frames of the window that it asks for, to a help frame at its
-- helper the first such frames that this member hands on; to others nothing.
abbrev pub sent_in_answer : Identity → List Fact → FrameFields → List Outgoing
sent_in_answer seat facts (CastFrame c) = []
sent_in_answer seat facts (StatusFrame s) = []
sent_in_answer seat facts (RequestFrame r) =
    if r.asked == seat.me then
    map (λ c. record { to = Some r.requester; bytes = text_of (CastFrame c) }) (take MOST_FRAMES (filter (is_asked_for r.ranges) (window seat facts)))
    else []
sent_in_answer seat facts (HelpFrame h) =
    if h.helper == seat.me then
    map (λ c. record { to = Some h.requester; bytes = text_of (CastFrame c) }) (take MOST_FRAMES (filter (is_asked_for h.ranges) (handed_on seat facts h.sender)))
    else []

-- what an arrival that is not refused says: the deliveries, whether the state changed, and what is sent; or that it is a repeat
pub data ArrivalSays : Type 0 where
  Accepted : List Message → Bool → List Outgoing → ArrivalSays
  Repeat : ArrivalSays

-- what the caller gets of it
abbrev pub arrival_says : Arrival → ArrivalSays
arrival_says (reported.Accepted deliveries changed out) = Accepted deliveries.items changed out.items
arrival_says reported.Repeat = Repeat

-- the answer to a frame of the group, by its rules in order
abbrev pub frame_answer : Identity → ℕ → List EntryFields → List Fact → FrameFields → Result ArrivalSays ArriveRefusal
frame_answer seat limit entries facts frame =
    if not (group_of frame == seat.group.number) then Err arrivals.OtherGroup else
    if not (are_members seat.group.size frame) then Err arrivals.BadMember else
    if is_impossible seat facts frame then Err arrivals.Impossible else
    if is_repeat facts frame then Ok Repeat else
    if is_overlap facts frame then Err arrivals.Overlap else
    if is_too_far seat facts frame then Err arrivals.TooFar else
    if is_change seat facts frame && is_full limit entries then Err arrivals.HistoryFull else
    if is_change seat facts frame then Ok (Accepted (deliveries seat facts frame) true (sent_in_answer seat facts frame)) else
    Ok (Accepted [] false (sent_in_answer seat facts frame))

abbrev pub answer_to : Identity → ℕ → List EntryFields → Result FrameFields FrameFault → Result ArrivalSays ArriveRefusal
answer_to seat limit entries (Ok frame) = frame_answer seat limit entries (facts_of entries) frame
answer_to seat limit entries (Err fault) = Err (arrivals.Malformed fault)

unfoldable pub arrive_answer : Identity → ℕ → List EntryFields → List ℕ → Result ArrivalSays ArriveRefusal
arrive_answer seat limit entries bytes = answer_to seat limit entries (frame_read bytes)

-- ---- a tick

-- the status that says a time: its fields that are not 0
abbrev pub status_of : Identity → List Fact → StatusFields
status_of seat facts = record {
  group = seat.group.number;
  sender = seat.me;
  values = filter (λ d. nat_lt 0 d.amount) (map (λ k. record { field = k; amount = delivered seat facts k }) (range_with_len 0 seat.group.size));
}

-- the last own status
abbrev pub last_status : List Fact → Option StatusFields → Option StatusFields
last_status [] last = last
last_status (OwnStatus s ∷ facts) last = last_status facts (Some s)
last_status (OwnCast c ∷ facts) last = last_status facts last
last_status (CastReceived c ∷ facts) last = last_status facts last
last_status (StatusReceived s ∷ facts) last = last_status facts last

abbrev pub says_the_time : Identity → List Fact → Option StatusFields → Bool
says_the_time seat facts None = false
says_the_time seat facts (Some s) = list_all (λ k. value_in s.values k == delivered seat facts k) (range_with_len 0 seat.group.size)

-- the status differs from the last one; the first one does
abbrev pub is_new_status : Identity → List Fact → Bool
is_new_status seat facts = not (says_the_time seat facts (last_status facts None))

-- the request to member i for the first ranges of what is missing of it, where something is
abbrev pub request_to : Identity → ℕ → List Range → List Outgoing
request_to seat i [] = []
request_to seat i (r ∷ ranges) =
    record { to = Some i; bytes = text_of (RequestFrame (record { group = seat.group.number; requester = seat.me; asked = i; ranges = take MOST_RANGES (r ∷ ranges) })) } ∷ []

abbrev pub requests : Identity → List Fact → List Outgoing
requests seat facts =
    flat_map (λ i. request_to seat i (ranges_of (missing seat facts i))) (filter (λ i. not (i == seat.me)) (range_with_len 0 seat.group.size))

-- whether an entry is added, and what is sent: the status to all, then the requests
unfoldable pub tick_answer : Identity → ℕ → List EntryFields → Result (Bool × List Outgoing) TickRefusal
tick_answer seat limit entries =
    if is_new_status seat (facts_of entries) && is_full limit entries then Err ticks.HistoryFull else
    Ok (
      is_new_status seat (facts_of entries),
      record { to = None; bytes = text_of (StatusFrame (status_of seat (facts_of entries))) } ∷ requests seat (facts_of entries),
    )
