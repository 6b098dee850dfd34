-- One member before there were help frames: what it answered and which histories it could have, as these were defined then. What
-- helpers leave as it was is named here; what they change is written out, so that no later change of it reaches this page.
use Rattle.std.specs.Prelude.{◌≡◌, ℕ, ◌+◌, ◌<◌, ◌≤◌, Bool, true, false, ◌&&◌, ◌||◌, not, ◌==◌, nat_lt, List, [], ◌∷◌, ◌++◌, length, take, map, filter, Option, Some, None, Result, Ok, Err, if◌then◌else◌}
use Rattle.std.specs.List.{list_any, range_with_len, flat_map}
use Rattle.cb_frames.specs.declared.frame.TheConstants.{LONGEST_PAYLOAD, MOST_FRAMES, MOST_MESSAGES, LAST_NUMBER}
use Rattle.cb_frames.specs.declared.fault.FrameFault.{FrameFault}
use Rattle.cb_frames.specs.declared.fault.FrameFault.TheVariants as faults
use Rattle.cb_frames.specs.Fields.{Load, payloads_of, load_bytes, CastFields, StatusFields, FrameFields, CastFrame, StatusFrame, RequestFrame, HelpFrame, last_number}
use Rattle.cb_frames.specs.Text.{help_kind, text_of}
use Rattle.cb_frames.specs.Reading.{frame_at}
use Rattle.cb_history.specs.declared.answer.ArriveRefusal.{ArriveRefusal}
use Rattle.cb_history.specs.declared.answer.ArriveRefusal.TheVariants as arrivals
use Rattle.cb_history.specs.declared.answer.TickRefusal.{TickRefusal}
use Rattle.cb_history.specs.declared.answer.TickRefusal.TheVariants as ticks
use Rattle.cb_history.specs.declared.answer.Outgoing.{Outgoing}
use Rattle.cb_history.specs.CastFault.{CastFault, EmptyBurst, BurstTooLong, PayloadTooLong, WindowFull, HistoryFull}
use Rattle.cb_history.specs.Group.{Identity, AreParameters}
use Rattle.cb_history.specs.Facts.{EntryFields, CastEntry, ArriveEntry, TickEntry, Fact, cast_said, arrival_said, status_said, casts_in}
use Rattle.cb_history.specs.View.{view}
use Rattle.cb_history.specs.Known.{greatest_of, least_of, value_in, known, reported_by, counted_by}
use Rattle.cb_history.specs.Answers.{delivered, is_full, next_cast, group_of, are_members, is_impossible, is_repeat, is_overlap, is_too_far, deliveries, own_casts, is_asked_for, ArrivalSays, Accepted, Repeat, status_of, is_new_status, requests}
use Rattle.cb_history.specs.Legal.{longest_history, Call, ToCast, ToTake, ToTick, ToHelp, OfBytes, cast_entry, arrive_entry, tick_entry, room_for_one}

-- bytes of the kind that help frames have now were no frame
abbrev pub frame_before : List ℕ → Result FrameFields FrameFault
frame_before [] = Err faults.Short
frame_before (kind ∷ bytes) = if kind == help_kind then Err faults.UnknownKind else frame_at (kind ∷ bytes)

-- what an entry said
abbrev pub said_before : EntryFields → List Fact
said_before (CastEntry frame) = cast_said (frame_before frame)
said_before (ArriveEntry frame delivered) = arrival_said (frame_before frame)
said_before (TickEntry status) = status_said (frame_before status)

abbrev pub facts_before : List EntryFields → List Fact
facts_before entries = flat_map said_before entries

-- how many of its casts the member knew that k, and that every other member, had delivered
abbrev pub acknowledged_before : Identity → List Fact → ℕ → ℕ
acknowledged_before seat facts k =
    greatest_of (flat_map (reported_by k seat.me) facts ++ counted_by (casts_in facts) (view seat.group.size facts) k seat.me)

abbrev pub stable_before : Identity → List Fact → ℕ
stable_before seat facts = least_of (map (acknowledged_before seat facts) (filter (λ k. not (k == seat.me)) (range_with_len 0 seat.group.size)))

-- ---- casting

abbrev pub is_too_many_before : Identity → List Fact → ℕ → Bool
is_too_many_before seat facts n =
    nat_lt (stable_before seat facts + seat.group.window) (delivered seat facts seat.me + n) || nat_lt LAST_NUMBER (delivered seat facts seat.me + n)

unfoldable pub cast_answer_before : Identity → ℕ → List EntryFields → Load → Result CastFields CastFault
cast_answer_before seat limit entries load =
    if length (payloads_of load) == 0 then Err EmptyBurst else
    if nat_lt MOST_MESSAGES (length (payloads_of load)) then Err BurstTooLong else
    if nat_lt LONGEST_PAYLOAD (length (load_bytes load)) then Err PayloadTooLong else
    if is_too_many_before seat (facts_before entries) (length (payloads_of load)) then Err WindowFull else
    if is_full limit entries then Err HistoryFull else
    Ok (next_cast seat (facts_before entries) load)

-- ---- an arrival

-- a status of another that raised what was known of some other sender's casts, or of the deliveries of this member's
abbrev pub is_news_before : Identity → List Fact → StatusFields → Bool
is_news_before seat facts s =
    not (s.sender == seat.me)
    && (list_any (λ k. not (k == seat.me) && nat_lt (known facts k) (value_in s.values k)) (range_with_len 0 seat.group.size)
    || nat_lt (acknowledged_before seat facts s.sender) (value_in s.values seat.me))

abbrev pub is_change_before : Identity → List Fact → FrameFields → Bool
is_change_before seat facts (CastFrame c) = true
is_change_before seat facts (StatusFrame s) = is_news_before seat facts s
is_change_before seat facts (RequestFrame r) = false
is_change_before seat facts (HelpFrame h) = false

abbrev pub window_before : Identity → List Fact → List CastFields
window_before seat facts = filter (λ c. nat_lt (stable_before seat facts) (last_number c)) (own_casts facts)

abbrev pub sent_before : Identity → List Fact → FrameFields → List Outgoing
sent_before seat facts (CastFrame c) = []
sent_before seat facts (StatusFrame s) = []
sent_before seat facts (RequestFrame r) =
    if r.asked == seat.me then
    map (λ c. record { to = Some r.requester; bytes = text_of (CastFrame c) }) (take MOST_FRAMES (filter (is_asked_for r.ranges) (window_before seat facts)))
    else []
sent_before seat facts (HelpFrame h) = []

abbrev pub frame_answer_before : Identity → ℕ → List EntryFields → List Fact → FrameFields → Result ArrivalSays ArriveRefusal
frame_answer_before seat limit entries facts frame =
    if not (group_of frame == seat.group.number) then Err arrivals.OtherGroup else
    if not (are_members seat.group.size frame) then Err arrivals.BadMember else
    if is_impossible seat facts frame then Err arrivals.Impossible else
    if is_repeat facts frame then Ok Repeat else
    if is_overlap facts frame then Err arrivals.Overlap else
    if is_too_far seat facts frame then Err arrivals.TooFar else
    if is_change_before seat facts frame && is_full limit entries then Err arrivals.HistoryFull else
    if is_change_before seat facts frame then Ok (Accepted (deliveries seat facts frame) true (sent_before seat facts frame)) else
    Ok (Accepted [] false (sent_before seat facts frame))

abbrev pub answer_to_before : Identity → ℕ → List EntryFields → Result FrameFields FrameFault → Result ArrivalSays ArriveRefusal
answer_to_before seat limit entries (Ok frame) = frame_answer_before seat limit entries (facts_before entries) frame
answer_to_before seat limit entries (Err fault) = Err (arrivals.Malformed fault)

unfoldable pub arrive_answer_before : Identity → ℕ → List EntryFields → List ℕ → Result ArrivalSays ArriveRefusal
arrive_answer_before seat limit entries bytes = answer_to_before seat limit entries (frame_before bytes)

-- ---- a tick

unfoldable pub tick_answer_before : Identity → ℕ → List EntryFields → Result (Bool × List Outgoing) TickRefusal
tick_answer_before seat limit entries =
    if is_new_status seat (facts_before entries) && is_full limit entries then Err ticks.HistoryFull else
    Ok (
      is_new_status seat (facts_before entries),
      record { to = None; bytes = text_of (StatusFrame (status_of seat (facts_before entries))) } ∷ requests seat (facts_before entries),
    )

-- ---- histories

abbrev pub entry_before : Identity → ℕ → List EntryFields → Call → Option EntryFields
entry_before seat limit entries (ToCast load) = cast_entry (cast_answer_before seat limit entries load)
entry_before seat limit entries (ToTake bytes) = arrive_entry bytes (arrive_answer_before seat limit entries bytes)
entry_before seat limit entries ToTick = tick_entry (text_of (StatusFrame (status_of seat (facts_before entries)))) (tick_answer_before seat limit entries)
entry_before seat limit entries (ToHelp i) = None

-- each entry is the one that some call added to the entries before it
pub data AreLegalBefore (seat : Identity) : List EntryFields → Type 0 where
  NoneBefore : AreLegalBefore seat []
  OneMoreBefore : (entries : List EntryFields) (call : Call) (e : EntryFields) → AreLegalBefore seat entries → OfBytes call → entry_before seat (room_for_one entries) entries call ≡ Some e → AreLegalBefore seat (entries ++ e ∷ [])

-- a history that a member of a group could have
pub record IsLegalBefore (seat : Identity) (entries : List EntryFields) : Type 0 where
  pub group : AreParameters seat.group
  pub member : seat.me < seat.group.size
  pub entries_are : AreLegalBefore seat entries
  pub few : length entries ≤ longest_history
