-- What is answered to a received request, to a help frame, and to bytes that are no frame.
use Rattle.std.specs.Prelude.{◌≡◌, ◌≢◌, ◌<◌, ◌⊎◌, ℕ, false, List, [], Result, Ok, Err}
use Rattle.std.specs.declared.vec.Vec.{Vec}
use Rattle.std.specs.declared.alloc.Global.{Global}
use Rattle.cb_frames.specs.Fields.{FrameFields, RequestFields, RequestFrame, HelpFields, HelpFrame}
use Rattle.cb_frames.specs.Reading.{HasValue}
use Rattle.cb_history.specs.Read.{frame_read}
use Rattle.cb_frames.specs.declared.fault.FrameFault.{FrameFault}
use Rattle.cb_history.specs.declared.answer.ArriveRefusal.{ArriveRefusal}
use Rattle.cb_history.specs.declared.answer.ArriveRefusal.TheVariants as refusals
use Rattle.cb_history.specs.declared.answer.Outgoing.{Outgoing}
use Rattle.cb_history.specs.Group.{Identity}
use Rattle.cb_history.specs.Facts.{Fact}
use Rattle.cb_history.specs.Answers.{sent_in_answer, Accepted}
use Rattle.cb_member.specs.declared.state.State.{State}
use Rattle.cb_member.specs.Arriving.{Answers}
use Rattle.cb_member.specs.State.{OnAll}

-- bytes that are no frame, or out of memory for a frame
abbrev pub RefusesBytes : List ℕ → ArriveRefusal → Type 0
RefusesBytes bytes refusal =
    ((fault : FrameFault) × (frame_read bytes ≡ Err fault) × (refusal ≡ refusals.Malformed fault)) ⊎ ((refusal ≡ refusals.NoMemory) × HasValue (frame_read bytes))

-- what the rules say of a request, whatever the member did so far
abbrev pub JudgesRequest : Identity → RequestFields → Result (Unit {0}) ArriveRefusal → Type 0
JudgesRequest seat r (Ok done) = (facts : List Fact) → Answers seat facts (RequestFrame r) (Ok (Accepted [] false (sent_in_answer seat facts (RequestFrame r))))
JudgesRequest seat r (Err refusal) = (facts : List Fact) → Answers seat facts (RequestFrame r) (Err refusal)

-- a help frame is accepted, whose helper is another than its sender, which is of the group
pub record AcceptsHelp (seat : Identity) (h : HelpFields) : Type 0 where
  pub answers : (facts : List Fact) → Answers seat facts (HelpFrame h) (Ok (Accepted [] false (sent_in_answer seat facts (HelpFrame h))))
  pub member : h.sender < seat.group.size
  pub third : h.helper ≢ h.sender

-- what the rules say of a help frame
abbrev pub JudgesHelp : Identity → HelpFields → Result (Unit {0}) ArriveRefusal → Type 0
JudgesHelp seat h (Ok done) = AcceptsHelp seat h
JudgesHelp seat h (Err refusal) = (facts : List Fact) → Answers seat facts (HelpFrame h) (Err refusal)

-- a frame that changes nothing is answered by its rules, and what is sent is sent; or there was no memory for that
abbrev pub IsAnswered : State → FrameFields → Result (Vec Outgoing Global) ArriveRefusal → Type 0
IsAnswered state frame (Ok out) = OnAll state (λ facts. Answers state.seat facts frame (Ok (Accepted [] false out.items)))
IsAnswered state frame (Err refusal) = OnAll state (λ facts. Answers state.seat facts frame (Err refusal)) ⊎ (refusal ≡ refusals.NoMemory)
