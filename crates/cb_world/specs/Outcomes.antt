-- What the program reports of a step, against what the definition answers.
use Rattle.std.specs.Prelude.{◌≡◌, ℕ, Bool, true, false, List, [], ◌∷◌, ◌++◌, length, Option, Some, None, Result, Ok, Err}
use Rattle.cb_times.specs.declared.name.Name.{Name}
use Rattle.cb_frames.specs.Fields.{Load, One, Many, CastFields}
use Rattle.cb_delay.specs.declared.message.Message.{Message}
use Rattle.cb_history.specs.declared.answer.ArriveRefusal.{ArriveRefusal}
use Rattle.cb_history.specs.declared.answer.TickRefusal.{TickRefusal}
use Rattle.cb_history.specs.declared.answer.HelpFault.{HelpFault}
use Rattle.cb_history.specs.declared.answer.Outgoing.{Outgoing}
use Rattle.cb_history.specs.CastFault.{CastFault, fault_told, burst_fault_told}
use Rattle.cb_history.specs.Group.{Identity}
use Rattle.cb_history.specs.Facts.{Fact, EntryFields, facts_of}
use Rattle.cb_history.specs.Answers.{ArrivalSays, Accepted, Repeat, cast_answer, cast_done, burst_done, arrive_answer, tick_answer}
use Rattle.cb_history.specs.Helping.{help_answer}
use Rattle.cb_history.specs.Legal.{Call, ToCast, ToTake, ToTick, ToHelp}
use Rattle.cb_schedules.specs.Schedule.{Setting, seat_at, Step, Schedule, SentFrame, Asked, Calls, OfNoMember, OfNoFrame, OfNoBytes, asked_by, GroupState, run, NoSuchMember, NoSuchFrame, NoBytes, answer_of, frames_sent}
use Rattle.cb_schedules.specs.Schedule as schedules
use Rattle.cb_world.specs.declared.outcome.Answer.{Answer}
use Rattle.cb_world.specs.declared.outcome.Answer.TheVariants as answers
use Rattle.cb_world.specs.declared.outcome.Outcome.{Outcome}
use Rattle.cb_world.specs.declared.outcome.Sent.{Sent}

-- a frame that was sent, without where it lies in memory
abbrev pub sent_fields : Sent → SentFrame
sent_fields sent = record { from = sent.from; to = sent.to; bytes = sent.bytes }

-- An answer without the frames that it sends. A refused cast is another answer than a refused burst. Each has its fault, and want of memory
-- is none.
pub data Reported : Type 0 where
  CastReported : Name → List ℕ → Reported
  BurstReported : Name → ℕ → List ℕ → Reported
  CastRefused : Option CastFault → Reported
  BurstRefused : Option CastFault → Reported
  AcceptedReported : List Message → Bool → Reported
  RepeatReported : Reported
  ArrivalRefused : ArriveRefusal → Reported
  TickReported : Bool → Reported
  TickRefused : TickRefusal → Reported
  HelpReported : Bool → Reported
  HelpRefused : HelpFault → Reported
  NoMemberReported : Reported
  NoFrameReported : Reported
  NoBytesReported : Reported

-- what the program reports
abbrev pub reported : Answer → Reported
reported (answers.Cast name time) = CastReported name time
reported (answers.CastRefused refusal) = CastRefused (fault_told refusal)
reported (answers.Burst first count time) = BurstReported first count time
reported (answers.BurstRefused refusal) = BurstRefused (burst_fault_told refusal)
reported (answers.Accepted deliveries changed) = AcceptedReported deliveries.items changed
reported answers.Repeat = RepeatReported
reported (answers.ArrivalRefused refusal) = ArrivalRefused refusal
reported (answers.Ticked entered) = TickReported entered
reported (answers.TickRefused refusal) = TickRefused refusal
reported (answers.Help asked) = HelpReported asked
reported (answers.HelpRefused fault) = HelpRefused fault
reported answers.NoSuchMember = NoMemberReported
reported answers.NoSuchFrame = NoFrameReported

-- the answer to what a step asks for, by the definition
abbrev pub answer_to : Setting → GroupState → Asked → schedules.Answer
answer_to setting s (Calls i call) = answer_of (seat_at setting i) setting.limit (s.histories i) call
answer_to setting s OfNoMember = NoSuchMember
answer_to setting s OfNoFrame = NoSuchFrame
answer_to setting s OfNoBytes = NoBytes

-- What is reported of a load depends on its kind: of a cast its name and its time, of a burst those of its first message and how many there
-- are; where it is refused, the fault of the one or of the other.
abbrev pub cast_reported : Identity → List Fact → Load → Result CastFields CastFault → Reported
cast_reported seat facts (One payload) (Ok c) = CastReported (cast_done seat facts c).name (cast_done seat facts c).time
cast_reported seat facts (One payload) (Err fault) = CastRefused (Some fault)
cast_reported seat facts (Many payloads) (Ok c) =
    BurstReported (burst_done seat facts c).first (burst_done seat facts c).count (burst_done seat facts c).time
cast_reported seat facts (Many payloads) (Err fault) = BurstRefused (Some fault)

-- what is reported of an arrival
abbrev pub arrival_reported : Result ArrivalSays ArriveRefusal → Reported
arrival_reported (Ok (Accepted deliveries changed out)) = AcceptedReported deliveries changed
arrival_reported (Ok Repeat) = RepeatReported
arrival_reported (Err refusal) = ArrivalRefused refusal

-- of a tick
abbrev pub tick_reported : Result (Bool × List Outgoing) TickRefusal → Reported
tick_reported (Ok t) = TickReported t.0
tick_reported (Err refusal) = TickRefused refusal

-- of a call for help
abbrev pub help_reported : Result (Option Outgoing) HelpFault → Reported
help_reported (Ok None) = HelpReported false
help_reported (Ok (Some out)) = HelpReported true
help_reported (Err fault) = HelpRefused fault

-- what is reported of a call of a member with these entries, by what the definition answers
abbrev pub reported_by : Identity → ℕ → List EntryFields → Call → Reported
reported_by seat limit entries (ToCast load) = cast_reported seat (facts_of entries) load (cast_answer seat limit entries load)
reported_by seat limit entries (ToTake bytes) = arrival_reported (arrive_answer seat limit entries bytes)
reported_by seat limit entries ToTick = tick_reported (tick_answer seat limit entries)
reported_by seat limit entries (ToHelp i) = help_reported (help_answer seat entries i)

-- and of what a step asks for
abbrev pub reported_of : Setting → GroupState → Asked → Reported
reported_of setting s (Calls i call) = reported_by (seat_at setting i) setting.limit (s.histories i) call
reported_of setting s OfNoMember = NoMemberReported
reported_of setting s OfNoFrame = NoFrameReported
reported_of setting s OfNoBytes = NoBytesReported

-- the outcome of a step in this state: what its member answers, and which frames it sends
pub record IsOutcome (setting : Setting) (s : GroupState) (step : Step) (outcome : Outcome) : Type 0 where
  pub answer : reported outcome.answer ≡ reported_of setting s (asked_by setting s.sent step)
  pub first : outcome.first_frame ≡ length s.sent
  pub count : outcome.frame_count ≡ length (frames_sent (answer_to setting s (asked_by setting s.sent step)))

-- an outcome for each step, in the state before it
pub data AreOutcomes (setting : Setting) : Schedule → List Outcome → Type 0 where
  NoOutcomes : AreOutcomes setting [] []
  OneOutcomeMore : (steps : Schedule) (step : Step) (outcomes : List Outcome) (outcome : Outcome) → AreOutcomes setting steps outcomes
      → IsOutcome setting (run setting steps) step outcome → AreOutcomes setting (steps ++ step ∷ []) (outcomes ++ outcome ∷ [])
