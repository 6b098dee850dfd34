-- Members that come back: each writes its entries into a journal, and after a restart it has those that were written.
use Rattle.std.specs.Prelude.{ℕ, ◌+◌, Bool, true, not, ◌||◌, ◌==◌, nat_le, nat_lt, List, [], ◌∷◌, ◌++◌, length, take, drop, map, filter, Option, Some, None, slice_get, bytes_eq, if◌then◌else◌}
use Rattle.std.specs.List.{position_or_len}
use Rattle.cb_delay.specs.declared.message.Event.{Event}
use Rattle.cb_history.specs.Facts.{EntryFields, facts_of}
use Rattle.cb_history.specs.Events.{events}
use Rattle.cb_history.specs.Legal.{Call, ToCast, ToTake, ToTick, ToHelp, history_after}
use Rattle.cb_schedules.specs.Schedule.{Setting, seat_at, Step, CastStep, ArriveStep, TickStep, HelpStep, Schedule, SentFrame, Asked, Calls, OfNoMember, OfNoFrame, OfNoBytes, answer_of, asked_by, frames_sent, sent_by, GroupState}

-- ---- states

-- a frame that was put out and not sent yet: so many entries of its member's history stood when it was
pub record WaitingFrame : Type 0 where
  pub behind : ℕ
  pub frame : SentFrame

-- a call as a member answered it: how many entries its history had behind it, and the frames put out
pub record EnteredCall : Type 0 where
  pub member : ℕ
  pub call : Call
  pub place : ℕ
  pub out : List SentFrame

-- Of each member the entries and the waiting frames that it has in memory, how many of the entries are written, and the events that its
-- caller was handed. All frames that were sent: an arrival takes one of these. And the calls that were entered and not dropped since, of
-- which laws alone speak.
pub record JournaledState : Type 0 where
  pub histories : ℕ → List EntryFields
  pub waiting : ℕ → List WaitingFrame
  pub written : ℕ → ℕ
  pub handed : ℕ → List Event
  pub sent : List SentFrame
  pub entered : List EnteredCall

-- at first nobody has done anything
abbrev pub nothing_journaled : JournaledState
nothing_journaled = record { histories = λ k. []; waiting = λ k. []; written = λ k. 0; handed = λ k. []; sent = []; entered = [] }

-- member i has this now, and all others have what they had
abbrev pub with_own : {A : Type 0} → (ℕ → A) → ℕ → A → ℕ → A
with_own those i own k = if k == i then own else those k

-- ---- steps

-- A member is asked for something, as by a step of a schedule; its next entry is written; one of its waiting frames is sent; its caller is
-- handed its next event; or it ends, and begins again with what is written.
pub data JournaledStep : Type 0 where
  EnterStep : Step → JournaledStep
  WriteStep : ℕ → JournaledStep
  SendStep : ℕ → ℕ → JournaledStep
  HandOutStep : ℕ → JournaledStep
  RestartStep : ℕ → JournaledStep

-- What comes first: an entry is written, and only then its frames are sent and its events handed out; or these need not wait for it.
pub data JournalOrder : Type 0 where
  WriteFirst : JournalOrder
  WriteLater : JournalOrder

-- ---- entering

abbrev pub entered_call : Setting → ℕ → List EntryFields → Call → EnteredCall
entered_call setting i entries call = record {
  member = i;
  call = call;
  place = length (history_after (seat_at setting i) setting.limit entries call);
  out = map (sent_by i) (frames_sent (answer_of (seat_at setting i) setting.limit entries call));
}

-- the frames of a call wait until all entries up to its place are written
abbrev pub waiting_frames : EnteredCall → List WaitingFrame
waiting_frames x = map (λ frame. record { behind = x.place; frame = frame }) x.out

abbrev pub and_entered : Setting → JournaledState → EnteredCall → JournaledState
and_entered setting r x = record r {
  histories = with_own r.histories x.member (history_after (seat_at setting x.member) setting.limit (r.histories x.member) x.call);
  waiting = with_own r.waiting x.member (r.waiting x.member ++ waiting_frames x);
  entered = r.entered ++ x ∷ [];
}

-- a step that names no member, no frame that was sent or no bytes changes nothing
abbrev pub after_entering : Setting → JournaledState → Asked → JournaledState
after_entering setting r (Calls i call) = and_entered setting r (entered_call setting i (r.histories i) call)
after_entering setting r OfNoMember = r
after_entering setting r OfNoFrame = r
after_entering setting r OfNoBytes = r

-- ---- writing, sending, handing out

-- entries are written in their order
abbrev pub after_writing : JournaledState → ℕ → JournaledState
after_writing r j = record r {
  written = with_own r.written j (if nat_lt (r.written j) (length (r.histories j)) then r.written j + 1 else r.written j);
}

-- what waits behind so many entries may go, where this many are written
abbrev pub may_go : JournalOrder → ℕ → ℕ → Bool
may_go WriteFirst behind written = nat_le behind written
may_go WriteLater behind written = true

abbrev pub and_sent : JournalOrder → JournaledState → ℕ → ℕ → Option WaitingFrame → JournaledState
and_sent order r j n None = r
and_sent order r j n (Some w) =
    if may_go order w.behind (r.written j)
    then record r {
      waiting = with_own r.waiting j (take n (r.waiting j) ++ drop (n + 1) (r.waiting j));
      sent = r.sent ++ w.frame ∷ [];
    }
    else r

-- the entries of member j that are written
abbrev pub written_entries : JournaledState → ℕ → List EntryFields
written_entries r j = take (r.written j) (r.histories j)

-- those whose events may be handed out
abbrev pub entries_to_show : JournalOrder → JournaledState → ℕ → List EntryFields
entries_to_show WriteFirst r j = written_entries r j
entries_to_show WriteLater r j = r.histories j

abbrev pub and_handed : JournaledState → ℕ → Option Event → JournaledState
and_handed r j None = r
and_handed r j (Some event) = record r { handed = with_own r.handed j (r.handed j ++ event ∷ []) }

-- the caller has counted what it was handed, and goes on there, also behind a restart
abbrev pub after_handing : JournalOrder → Setting → JournaledState → ℕ → JournaledState
after_handing order setting r j =
    and_handed r j (slice_get (events (seat_at setting j) (facts_of (entries_to_show order r j))) (length (r.handed j)))

-- ---- restarts

-- a call is dropped by a restart of its member where not all entries up to its place are written
abbrev pub is_kept : JournaledState → ℕ → EnteredCall → Bool
is_kept r j x = not (x.member == j) || nat_le x.place (r.written j)

-- Memory is lost, the waiting frames too. What was sent and handed out has gone.
abbrev pub after_restart : JournaledState → ℕ → JournaledState
after_restart r j = record r {
  histories = with_own r.histories j (written_entries r j);
  waiting = with_own r.waiting j [];
  entered = filter (is_kept r j) r.entered;
}

-- ---- runs

-- the state after one step
unfoldable pub journaled_step : JournalOrder → Setting → JournaledState → JournaledStep → JournaledState
journaled_step order setting r (EnterStep step) = after_entering setting r (asked_by setting r.sent step)
journaled_step order setting r (WriteStep j) = after_writing r j
journaled_step order setting r (SendStep j n) = and_sent order r j n (slice_get (r.waiting j) n)
journaled_step order setting r (HandOutStep j) = after_handing order setting r j
journaled_step order setting r (RestartStep j) = after_restart r j

-- the state after some steps
unfoldable pub journaled_from : JournalOrder → Setting → JournaledState → List JournaledStep → JournaledState
journaled_from order setting r [] = r
journaled_from order setting r (step ∷ steps) = journaled_from order setting (journaled_step order setting r step) steps

-- the run of a list of such steps
abbrev pub journaled_run : JournalOrder → Setting → List JournaledStep → JournaledState
journaled_run order setting steps = journaled_from order setting nothing_journaled steps

-- ---- what is left

-- The step that asks for a call, where these frames were put out. An arrival names the first frame with its bytes.
abbrev pub step_for : List SentFrame → ℕ → Call → Step
step_for frames i (ToCast load) = CastStep i load
step_for frames i (ToTake bytes) = ArriveStep i (position_or_len (λ frame. bytes_eq bytes frame.bytes) frames)
step_for frames i ToTick = TickStep i
step_for frames i (ToHelp k) = HelpStep i k

-- the steps that ask for these calls, one after another
abbrev pub steps_for : List SentFrame → List EnteredCall → Schedule
steps_for frames [] = []
steps_for frames (x ∷ calls) = step_for frames x.member x.call ∷ steps_for (frames ++ x.out) calls

-- the schedule without the steps that were dropped: what was entered, in its order
abbrev pub without_dropped : JournaledState → Schedule
without_dropped r = steps_for [] r.entered

-- what there is now, as a state of a group: the histories in memory and all frames that were sent
abbrev pub there_now : JournaledState → GroupState
there_now r = record { histories = r.histories; sent = r.sent; outcomes = [] }
