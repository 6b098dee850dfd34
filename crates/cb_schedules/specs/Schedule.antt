-- What may happen in a group of members, and what its run leaves behind.
use Rattle.std.specs.Prelude.{ℕ, ◌≤◌, Bool, nat_lt, ◌==◌, List, [], ◌∷◌, ◌++◌, length, map, Option, Some, None, Result, Ok, slice_get, if◌then◌else◌}
use Rattle.std.specs.List.{list_all}
use Rattle.cb_frames.specs.Fields.{Load, load_bytes, CastFields, CastFrame}
use Rattle.cb_frames.specs.Text.{text_of}
use Rattle.cb_history.specs.declared.answer.ArriveRefusal.{ArriveRefusal}
use Rattle.cb_history.specs.declared.answer.TickRefusal.{TickRefusal}
use Rattle.cb_history.specs.declared.answer.Outgoing.{Outgoing}
use Rattle.cb_history.specs.declared.answer.HelpFault.{HelpFault}
use Rattle.cb_history.specs.CastFault.{CastFault}
use Rattle.cb_history.specs.Group.{Parameters, AreParameters, Identity}
use Rattle.cb_history.specs.Facts.{EntryFields}
use Rattle.cb_history.specs.Helping.{help_answer}
use Rattle.cb_history.specs.Answers.{cast_answer, arrive_answer, tick_answer, ArrivalSays, Accepted}
use Rattle.cb_history.specs.Legal.{longest_history, Call, ToCast, ToTake, ToTick, ToHelp, history_after}

-- a group, and how many entries the history of each member may have
pub record Setting : Type 0 where
  pub group : Parameters
  pub limit : ℕ

-- what is true of every one; runs rest on it alone, whatever the limit is
pub record IsSetting (setting : Setting) : Type 0 where
  pub group : AreParameters setting.group
  pub one_or_more : 1 ≤ setting.limit

-- one whose members keep their histories: the limit is one that a history can have
pub record IsSettingOfHistories (setting : Setting) : Type 0 where
  pub is_setting : IsSetting setting
  pub at_most : setting.limit ≤ longest_history

-- member i of the group
abbrev pub seat_at : Setting → ℕ → Identity
seat_at setting i = record { group = setting.group; me = i }

-- ---- schedules

-- one thing that happens: a member casts a load, a frame that was sent arrives at a member, a member ticks, or a member asks a third one
-- for what it lacks of a sender
pub data Step : Type 0 where
  CastStep : ℕ → Load → Step
  ArriveStep : ℕ → ℕ → Step
  TickStep : ℕ → Step
  HelpStep : ℕ → ℕ → Step

-- what happens, one thing after another; whatever is lost, comes again or comes late is so by the schedule's choice
abbrev pub Schedule : Type 0
Schedule = List Step

-- a frame that was sent: by whom, to whom (to all others where none is named), and its bytes
pub record SentFrame : Type 0 where
  pub from : ℕ
  pub to : Option ℕ
  pub bytes : List ℕ

-- what a step asks for: a call of a member; or nothing, where it names no member, no frame, or a load that is not bytes
pub data Asked : Type 0 where
  Calls : ℕ → Call → Asked
  OfNoMember : Asked
  OfNoFrame : Asked
  OfNoBytes : Asked

-- each number of these is below 256
abbrev pub are_bytes : List ℕ → Bool
are_bytes bytes = list_all (λ b. nat_lt b 256) bytes

abbrev pub of_member : Setting → ℕ → Asked → Asked
of_member setting i asked = if nat_lt i setting.group.size then asked else OfNoMember

-- the frame is handed over to member j
abbrev pub handed_over : ℕ → Option SentFrame → Asked
handed_over j None = OfNoFrame
handed_over j (Some frame) = Calls j (ToTake frame.bytes)

-- what a step asks for, where these frames were sent
abbrev pub asked_by : Setting → List SentFrame → Step → Asked
asked_by setting sent (CastStep i load) = of_member setting i (if are_bytes (load_bytes load) then Calls i (ToCast load) else OfNoBytes)
asked_by setting sent (ArriveStep j number) = of_member setting j (handed_over j (slice_get sent number))
asked_by setting sent (TickStep i) = of_member setting i (Calls i ToTick)
asked_by setting sent (HelpStep j i) = of_member setting j (Calls j (ToHelp i))

-- ---- answers

-- what a step is answered: what its member answers to the call, by its history; or that the step names none
pub data Answer : Type 0 where
  CastAnswer : Result CastFields CastFault → Answer
  ArrivalAnswer : Result ArrivalSays ArriveRefusal → Answer
  TickAnswer : Result (Bool × List Outgoing) TickRefusal → Answer
  HelpAnswer : Result (Option Outgoing) HelpFault → Answer
  NoSuchMember : Answer
  NoSuchFrame : Answer
  NoBytes : Answer

abbrev pub answer_of : Identity → ℕ → List EntryFields → Call → Answer
answer_of seat limit entries (ToCast load) = CastAnswer (cast_answer seat limit entries load)
answer_of seat limit entries (ToTake bytes) = ArrivalAnswer (arrive_answer seat limit entries bytes)
answer_of seat limit entries ToTick = TickAnswer (tick_answer seat limit entries)
answer_of seat limit entries (ToHelp i) = HelpAnswer (help_answer seat entries i)

-- the frames that an answer sends: a cast's to all others, those in answer to a request or a help frame, a status and requests, a help frame
abbrev pub frames_sent : Answer → List Outgoing
frames_sent (CastAnswer (Ok c)) = record { to = None; bytes = text_of (CastFrame c) } ∷ []
frames_sent (ArrivalAnswer (Ok (Accepted deliveries changed out))) = out
frames_sent (TickAnswer (Ok t)) = t.1
frames_sent (HelpAnswer (Ok (Some out))) = out ∷ []
frames_sent other = []

abbrev pub sent_by : ℕ → Outgoing → SentFrame
sent_by i out = record { from = i; to = out.to; bytes = out.bytes }

-- the outcome of a step: what it asked for, the answer, and the number of the first frame sent and how many these are
pub record Outcome : Type 0 where
  pub asked : Asked
  pub answer : Answer
  pub first : ℕ
  pub count : ℕ

-- ---- runs

-- a history for each member, all frames that were sent, and what was received of the steps
pub record GroupState : Type 0 where
  pub histories : ℕ → List EntryFields
  pub sent : List SentFrame
  pub outcomes : List Outcome

-- member i has these entries now, and all others have what they had
abbrev pub with_history : (ℕ → List EntryFields) → ℕ → List EntryFields → ℕ → List EntryFields
with_history histories i entries k = if k == i then entries else histories k

-- nothing changes, and the outcome says so
abbrev pub and_nothing : GroupState → Asked → Answer → GroupState
and_nothing s asked answer = record {
  histories = s.histories;
  sent = s.sent;
  outcomes = s.outcomes ++ record { asked = asked; answer = answer; first = length s.sent; count = 0 } ∷ [];
}

-- member i answers the call: its history is the one after it, and what it sends is sent
abbrev pub and_answer : Setting → GroupState → ℕ → Call → Answer → GroupState
and_answer setting s i call answer = record {
  histories = with_history s.histories i (history_after (seat_at setting i) setting.limit (s.histories i) call);
  sent = s.sent ++ map (sent_by i) (frames_sent answer);
  outcomes = s.outcomes ++ record { asked = Calls i call; answer = answer; first = length s.sent; count = length (frames_sent answer) } ∷ [];
}

abbrev pub after_asked : Setting → GroupState → Asked → GroupState
after_asked setting s (Calls i call) = and_answer setting s i call (answer_of (seat_at setting i) setting.limit (s.histories i) call)
after_asked setting s OfNoMember = and_nothing s OfNoMember NoSuchMember
after_asked setting s OfNoFrame = and_nothing s OfNoFrame NoSuchFrame
after_asked setting s OfNoBytes = and_nothing s OfNoBytes NoBytes

-- the state after one step
unfoldable pub step_after : Setting → GroupState → Step → GroupState
step_after setting s step = after_asked setting s (asked_by setting s.sent step)

-- at first nobody has done anything
abbrev pub nothing_yet : GroupState
nothing_yet = record { histories = λ k. []; sent = []; outcomes = [] }

-- the state after some steps
unfoldable pub run_from : Setting → GroupState → Schedule → GroupState
run_from setting s [] = s
run_from setting s (step ∷ steps) = run_from setting (step_after setting s step) steps

-- the run of a schedule
abbrev pub run : Setting → Schedule → GroupState
run setting steps = run_from setting nothing_yet steps
