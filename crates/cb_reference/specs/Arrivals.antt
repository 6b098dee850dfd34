-- What the plain member makes of a received frame.
use Rattle.std.specs.Prelude.{◌≡◌, ◌⊎◌, ℕ, ◌<◌, true, false, List, [], length, map, Some, IsSome, option_map, Result, Ok, Err}
use Rattle.cb_frames.specs.declared.fault.FrameFault.{FrameFault}
use Rattle.cb_frames.specs.Fields.{FrameFields, CastFields, StatusFields, RequestFields, HelpFields, CastFrame, StatusFrame, RequestFrame, HelpFrame}
use Rattle.cb_frames.specs.Reading.{HasValue}
use Rattle.cb_history.specs.Read.{frame_read}
use Rattle.cb_history.specs.declared.answer.ArriveRefusal.{ArriveRefusal}
use Rattle.cb_history.specs.declared.answer.ArriveRefusal.TheVariants as refusals
use Rattle.cb_reference.specs.declared.arrival.Accepting.{Accepting}
use Rattle.cb_reference.specs.declared.arrival.cast.Judged.{Judged}
use Rattle.cb_reference.specs.declared.arrival.cast.Judged.TheVariants as judged
use Rattle.cb_reference.specs.declared.arrival.status.Judged.{Judged as NewsOrNot}
use Rattle.cb_reference.specs.declared.arrival.status.Judged.TheVariants as news
use Rattle.cb_history.specs.Facts.{ArriveEntry, entry_fields}
use Rattle.cb_history.specs.Answers.{arrival_says, frame_answer, deliveries, sent_in_answer, ArrivalSays, Accepted, Repeat}
use Rattle.cb_history.specs.Legal.{arrive_entry}
use Rattle.cb_history.specs.State.{MemberState, facts_in}

-- the answer to a frame
abbrev pub answer_to_frame : MemberState → FrameFields → Result ArrivalSays ArriveRefusal
answer_to_frame m frame = frame_answer m.seat m.limit m.entries (facts_in m) frame

-- what the rules say of a cast, as the answer that follows
abbrev pub JudgesCast : MemberState → CastFields → Result Judged ArriveRefusal → Type 0
JudgesCast m c (Ok judged.Repeat) = answer_to_frame m (CastFrame c) ≡ Ok Repeat
JudgesCast m c (Ok judged.Taken) =
    (answer_to_frame m (CastFrame c) ≡ Ok (Accepted (deliveries m.seat (facts_in m) (CastFrame c)) true [])) × (length m.entries < m.limit)
JudgesCast m c (Err refusal) = answer_to_frame m (CastFrame c) ≡ Err refusal

-- of a status
abbrev pub JudgesStatus : MemberState → StatusFields → Result NewsOrNot ArriveRefusal → Type 0
JudgesStatus m s (Ok news.News) =
    (answer_to_frame m (StatusFrame s) ≡ Ok (Accepted (deliveries m.seat (facts_in m) (StatusFrame s)) true [])) × (length m.entries < m.limit)
JudgesStatus m s (Ok news.NoNews) = answer_to_frame m (StatusFrame s) ≡ Ok (Accepted [] false [])
JudgesStatus m s (Err refusal) = answer_to_frame m (StatusFrame s) ≡ Err refusal

-- of a request, which changes nothing
abbrev pub JudgesRequest : MemberState → RequestFields → Result (Unit {0}) ArriveRefusal → Type 0
JudgesRequest m r (Ok done) = answer_to_frame m (RequestFrame r) ≡ Ok (Accepted [] false (sent_in_answer m.seat (facts_in m) (RequestFrame r)))
JudgesRequest m r (Err refusal) = answer_to_frame m (RequestFrame r) ≡ Err refusal

-- and of a help frame, which changes nothing
abbrev pub JudgesHelp : MemberState → HelpFields → Result (Unit {0}) ArriveRefusal → Type 0
JudgesHelp m h (Ok done) = answer_to_frame m (HelpFrame h) ≡ Ok (Accepted [] false (sent_in_answer m.seat (facts_in m) (HelpFrame h)))
JudgesHelp m h (Err refusal) = answer_to_frame m (HelpFrame h) ≡ Err refusal

-- bytes that are no frame, or out of memory for a frame
abbrev pub IsReadRefusal : List ℕ → ArriveRefusal → Type 0
IsReadRefusal bytes refusal =
    ((fault : FrameFault) × (frame_read bytes ≡ Err fault) × (refusal ≡ refusals.Malformed fault)) ⊎ ((refusal ≡ refusals.NoMemory) × HasValue (frame_read bytes))

-- what the answer says, the entry that it adds, and that there is room for it
pub record IsAccepting (m : MemberState) (bytes : List ℕ) (answer : Result ArrivalSays ArriveRefusal) (a : Accepting) : Type 0 where
  pub says : answer ≡ Ok (arrival_says a.arrival)
  pub adds : option_map entry_fields a.entry ≡ arrive_entry bytes answer
  pub room : IsSome a.entry → length m.entries < m.limit

-- a frame that changes the state was taken: what it delivers, and its entry
pub record TakesFrame (m : MemberState) (bytes : List ℕ) (frame : FrameFields) (a : Accepting) : Type 0 where
  pub says : arrival_says a.arrival ≡ Accepted (deliveries m.seat (facts_in m) frame) true []
  pub adds : option_map entry_fields a.entry ≡ Some (ArriveEntry bytes (map (λ d. d.name) (deliveries m.seat (facts_in m) frame)))

-- the answer is a refusal, or memory ran out
abbrev pub MayRefuse : Result ArrivalSays ArriveRefusal → ArriveRefusal → Type 0
MayRefuse answer refusal = (answer ≡ Err refusal) ⊎ (refusal ≡ refusals.NoMemory)
