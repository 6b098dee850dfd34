-- What one step does to the member that it names, and to the frames that were sent.
use Rattle.std.specs.Prelude.{◌≡◌, ℕ, List, ◌++◌, length, map, slice_get, Some, if◌then◌else◌}
use Rattle.cb_frames.specs.Fields.{load_bytes}
use Rattle.cb_history.specs.Legal.{Call, ToCast, ToTick, ToHelp}
use Rattle.cb_history.specs.State.{MemberState, state_after}
use Rattle.cb_schedules.specs.Schedule.{Setting, seat_at, Step, CastStep, ArriveStep, TickStep, HelpStep, SentFrame, Asked, Calls, OfNoMember, OfNoFrame, OfNoBytes, are_bytes, handed_over, asked_by, answer_of, frames_sent, sent_by, GroupState, step_after}
use Rattle.cb_world.specs.declared.outcome.Answer.{Answer}
use Rattle.cb_world.specs.declared.outcome.Sent.{Sent}
use Rattle.cb_world.specs.Outcomes.{sent_fields, Reported, NoMemberReported, NoFrameReported, NoBytesReported, reported, reported_by, reported_of}

-- ---- one member

-- the member answered the call: it is reported, the member is as after it, and what it sends is sent
pub record HasAnswered (old new : MemberState) (call : Call) (before after : List SentFrame) (answer : Answer) : Type 0 where
  pub reported_is : reported answer ≡ reported_by old.seat old.limit old.entries call
  pub state : new ≡ state_after old call
  pub sent : after ≡ before ++ map (sent_by old.seat.me) (frames_sent (answer_of old.seat old.limit old.entries call))

-- nothing happened, and this is reported
pub record HasReportedAlone (old new : MemberState) (says : Reported) (before after : List SentFrame) (answer : Answer) : Type 0 where
  pub reported_is : reported answer ≡ says
  pub state : new ≡ old
  pub sent : after ≡ before

-- the member did what is asked for
abbrev pub HasDone : MemberState → MemberState → Asked → List SentFrame → List SentFrame → Answer → Type 0
HasDone old new (Calls i call) before after answer = HasAnswered old new call before after answer
HasDone old new OfNoMember before after answer = HasReportedAlone old new NoMemberReported before after answer
HasDone old new OfNoFrame before after answer = HasReportedAlone old new NoFrameReported before after answer
HasDone old new OfNoBytes before after answer = HasReportedAlone old new NoBytesReported before after answer

-- what a step asks of the member that it names, where these frames were sent
abbrev pub asks : List SentFrame → Step → Asked
asks sent (CastStep i load) = if are_bytes (load_bytes load) then Calls i (ToCast load) else OfNoBytes
asks sent (ArriveStep j number) = handed_over j (slice_get sent number)
asks sent (TickStep i) = Calls i ToTick
asks sent (HelpStep j i) = Calls j (ToHelp i)

-- ---- the group

-- member i in this state
abbrev pub member_at : Setting → GroupState → ℕ → MemberState
member_at setting s i = record { seat = seat_at setting i; limit = setting.limit; entries = s.histories i }

-- the members and the frames are those of the state
pub record Stands (setting : Setting) (s : GroupState) (members : List MemberState) (sent : List Sent) : Type 0 where
  pub many : length members ≡ setting.group.size
  pub members_are : (i : ℕ) (m : MemberState) → slice_get members i ≡ Some m → m ≡ member_at setting s i
  pub sent_are : map sent_fields sent ≡ s.sent

-- after the step they are those of the state after it, and its answer is reported
pub record HasTaken (setting : Setting) (s : GroupState) (step : Step) (members : List MemberState) (sent : List Sent) (answer : Answer) : Type 0 where
  pub reported_is : reported answer ≡ reported_of setting s (asked_by setting s.sent step)
  pub stands : Stands setting (step_after setting s step) members sent

-- so it is in each state that they are those of
abbrev pub Takes : List MemberState → List Sent → Step → List MemberState → List Sent → Answer → Type 0
Takes members sent step members_after sent_after answer =
    (setting : Setting) (s : GroupState) → Stands setting s members sent → HasTaken setting s step members_after sent_after answer
