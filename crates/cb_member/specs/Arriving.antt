-- How a cast of another member arrives: what the rules say of it, and what is kept with it.
use Rattle.std.specs.Prelude.{◌≡◌, ℕ, ◌≤◌, ◌<◌, nat_lt, true, if◌then◌else◌, List, [], ◌∷◌, ◌++◌, length, map, Result, Ok, Err}
use Rattle.cb_frames.specs.Fields.{CastFields, FrameFields, CastFrame}
use Rattle.cb_delay.specs.declared.message.Event.{Event}
use Rattle.cb_delay.specs.declared.message.Event.TheVariants.{Deliver}
use Rattle.cb_gaps.specs.declared.buffer.Admission.{Admission}
use Rattle.cb_gaps.specs.declared.buffer.Admission.TheVariants as admissions
use Rattle.cb_gaps.specs.declared.buffer.Admission.TheVariants.{Kept}
use Rattle.cb_history.specs.declared.answer.ArriveRefusal.{ArriveRefusal}
use Rattle.cb_history.specs.declared.answer.ArriveRefusal.TheVariants as arrivals
use Rattle.cb_history.specs.Group.{Identity}
use Rattle.cb_history.specs.Facts.{EntryFields, Fact, CastReceived}
use Rattle.cb_history.specs.Answers.{frame_answer, deliveries, ArrivalSays, Accepted, Repeat}
use Rattle.cb_history.specs.LegalFacts.{AreFactsOf}
use Rattle.cb_member.specs.declared.arrival.cast.Judged.{Judged}
use Rattle.cb_member.specs.declared.arrival.cast.Judged.TheVariants as judged
use Rattle.cb_member.specs.declared.state.State.{State}
use Rattle.cb_member.specs.State.{Keeps, OnAll}
use Rattle.cb_member.specs.Taking.{CanFollow}

-- ---- judging

-- the answer to a frame, however many entries these facts stand in
abbrev pub Answers : Identity → List Fact → FrameFields → Result ArrivalSays ArriveRefusal → Type 0
Answers seat facts frame answer = (limit : ℕ) (entries : List EntryFields) → frame_answer seat limit entries facts frame ≡ answer

-- the frame is taken and changes the state, where there is room for an entry; else the history is full
pub record Changes (seat : Identity) (facts : List Fact) (frame : FrameFields) : Type 0 where
  pub taken : (limit : ℕ) (entries : List EntryFields) → length entries < limit
      → frame_answer seat limit entries facts frame ≡ Ok (Accepted (deliveries seat facts frame) true [])
  pub full : (limit : ℕ) (entries : List EntryFields) → limit ≤ length entries
      → frame_answer seat limit entries facts frame ≡ Err arrivals.HistoryFull

-- the cast may follow what is kept, and changes it
pub record IsNew (c : CastFields) (state : State) : Type 0 where
  pub can : CanFollow c state
  pub legal : OnAll state (λ facts. AreFactsOf state.seat (facts ++ CastReceived c ∷ []))
  pub changes : OnAll state (λ facts. Changes state.seat facts (CastFrame c))

-- a cast of the member itself was made before, or it never made it
abbrev pub own_verdict : ℕ → ℕ → Result Judged ArriveRefusal
own_verdict delivered number = if nat_lt delivered number then Err arrivals.Impossible else Ok judged.Repeat

-- what follows from what a reorder buffer says of another member's cast
abbrev pub FollowsFrom : Admission → Result Judged ArriveRefusal → Type 0
FollowsFrom Kept verdict = verdict ≡ Ok judged.Taken
FollowsFrom admissions.Repeat verdict = verdict ≡ Ok judged.Repeat
FollowsFrom admissions.Overlap verdict = verdict ≡ Err arrivals.Overlap
FollowsFrom admissions.TooFar verdict = verdict ≡ Err arrivals.TooFar

-- what the rules say of a cast, as the answer that follows
abbrev pub JudgesCast : State → CastFields → Result Judged ArriveRefusal → Type 0
JudgesCast state c (Ok judged.Repeat) = OnAll state (λ facts. Answers state.seat facts (CastFrame c) (Ok Repeat))
JudgesCast state c (Ok judged.Taken) = IsNew c state
JudgesCast state c (Err refusal) = OnAll state (λ facts. Answers state.seat facts (CastFrame c) (Err refusal))

-- ---- delivering

-- the new state is one of these facts and the cast, and what the definition says that the cast delivers joined the events
pub record DeliversOn (facts : List Fact) (c : CastFields) (old new : State) (before after : List Event) : Type 0 where
  pub keeps : Keeps (facts ++ CastReceived c ∷ []) new
  pub events : after ≡ before ++ map (λ m. Deliver m) (deliveries old.seat facts (CastFrame c))

-- so it is on all facts that the state kept and that the cast may follow
pub record DeliversWith (c : CastFields) (old new : State) (before after : List Event) : Type 0 where
  pub seat : new.seat ≡ old.seat
  pub delivers : (facts : List Fact) → AreFactsOf old.seat (facts ++ CastReceived c ∷ []) → Keeps facts old
      → DeliversOn facts c old new before after
