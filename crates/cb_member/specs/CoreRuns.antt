-- The calls of a core from its first one on, and what the definitions answer to them one by one.
use Rattle.std.specs.Prelude.{◌≡◌, ℕ, ◌+◌, ◌<◌, List, [], ◌∷◌, length, Result, Ok, Err}
use Rattle.cb_frames.specs.declared.frame.TheConstants.{LAST_NUMBER}
use Rattle.cb_frames.specs.Fields.{Load, payloads_of}
use Rattle.cb_times.specs.Order.{field}
use Rattle.cb_delay.specs.declared.message.Event.{Event}
use Rattle.cb_delay.specs.declared.message.Message.{Message}
use Rattle.cb_history.specs.declared.answer.ArriveRefusal.{ArriveRefusal}
use Rattle.cb_history.specs.declared.answer.BurstRefusal.{BurstRefusal}
use Rattle.cb_history.specs.declared.answer.BurstRefusal.TheVariants as bursts
use Rattle.cb_history.specs.declared.answer.CastRefusal.{CastRefusal}
use Rattle.cb_history.specs.declared.answer.CastRefusal.TheVariants as casts
use Rattle.cb_history.specs.declared.answer.Ticked.{Ticked}
use Rattle.cb_history.specs.declared.answer.TickRefusal.{TickRefusal}
use Rattle.cb_history.specs.declared.history.Entry.{Entry}
use Rattle.cb_history.specs.Group.{Identity}
use Rattle.cb_history.specs.Facts.{EntryFields}
use Rattle.cb_history.specs.Load.{FitsFrame}
use Rattle.cb_history.specs.Legal.{ToCast, ToTake, ToTick}
use Rattle.cb_history.specs.State.{MemberState, HasTicked, RefusesArrival, RefusesTick, state_after}
use Rattle.cb_member.specs.declared.received.Received.{Received}
use Rattle.cb_member.specs.Casting.{RefusesBurstExactly, RefusesExactly}
use Rattle.cb_member.specs.CoreCalls.{HasCastWith, HasReceivedWith}
use Rattle.cb_member.specs.CoreMember.{Core, GoesOn, IsCore, OnEach, StandsFor, grown_by, unlimited}

-- a call, and what was answered to it: of a cast its frame and its entry, and the events that joined; of received bytes also what was delivered
pub data AnsweredCall : Type 0 where
  Cast : Load → Result (List ℕ × Entry) CastRefusal → List Event → AnsweredCall
  Burst : Load → Result (List ℕ × Entry) BurstRefusal → List Event → AnsweredCall
  Take : List ℕ → Result Received ArriveRefusal → List Message → AnsweredCall
  Tick : Result Ticked TickRefusal → AnsweredCall

-- ---- by the definitions

-- the answer is the definition's for this member, or there was no memory for it
abbrev pub IsAnswered : MemberState → AnsweredCall → Type 0
IsAnswered m (Cast load (Ok cast) events) = HasCastWith m load cast events
IsAnswered m (Cast load (Err refusal) events) = RefusesExactly m load refusal
IsAnswered m (Burst load (Ok cast) events) = HasCastWith m load cast events
IsAnswered m (Burst load (Err refusal) events) = RefusesBurstExactly m load refusal
IsAnswered m (Take bytes (Ok received) messages) = HasReceivedWith m (state_after m (ToTake bytes)) bytes received messages
IsAnswered m (Take bytes (Err refusal) messages) = RefusesArrival m bytes refusal
IsAnswered m (Tick (Ok ticked)) = HasTicked m (state_after m ToTick) ticked
IsAnswered m (Tick (Err refusal)) = RefusesTick m refusal

-- the history with a call, to which a refused one adds nothing
abbrev pub history_with : Identity → List EntryFields → AnsweredCall → List EntryFields
history_with seat entries (Cast load (Ok cast) events) = grown_by seat entries (ToCast load)
history_with seat entries (Cast load (Err refusal) events) = entries
history_with seat entries (Burst load (Ok cast) events) = grown_by seat entries (ToCast load)
history_with seat entries (Burst load (Err refusal) events) = entries
history_with seat entries (Take bytes (Ok received) messages) = grown_by seat entries (ToTake bytes)
history_with seat entries (Take bytes (Err refusal) messages) = entries
history_with seat entries (Tick (Ok ticked)) = grown_by seat entries ToTick
history_with seat entries (Tick (Err refusal)) = entries

-- the history after these calls on one that has these entries
abbrev pub history_after_all : Identity → List EntryFields → List AnsweredCall → List EntryFields
history_after_all seat entries [] = entries
history_after_all seat entries (a ∷ calls) = history_after_all seat (history_with seat entries a) calls

-- each call is answered on the history of the calls before it
abbrev pub AreAnswered : Identity → List EntryFields → List AnsweredCall → Type 0
AreAnswered seat entries [] = Unit {0}
AreAnswered seat entries (a ∷ calls) = IsAnswered (unlimited seat entries) a × AreAnswered seat (history_with seat entries a) calls

-- ---- by a core

-- what the core is after a call that is answered so, and after a refused one
abbrev pub GoesOnOrStays : AnsweredCall → Core → Core → Type 0
GoesOnOrStays (Cast load (Ok cast) events) old new = GoesOn (ToCast load) old new
GoesOnOrStays (Cast load (Err refusal) events) old new = new ≡ old
GoesOnOrStays (Burst load (Ok cast) events) old new = GoesOn (ToCast load) old new
GoesOnOrStays (Burst load (Err refusal) events) old new = new ≡ old
GoesOnOrStays (Take bytes (Ok received) messages) old new = GoesOn (ToTake bytes) old new
GoesOnOrStays (Take bytes (Err refusal) messages) old new = new ≡ old
GoesOnOrStays (Tick (Ok ticked)) old new = GoesOn ToTick old new
GoesOnOrStays (Tick (Err refusal)) old new = new ≡ old

-- what a call of a core promises
pub record IsCall (a : AnsweredCall) (old new : Core) : Type 0 where
  pub answered : OnEach old (λ m. IsAnswered m a)
  pub goes : GoesOnOrStays a old new

-- these calls lead from one core to the other
pub data Calls : List AnsweredCall → Core → Core → Type 0 where
  NoCall : (core : Core) → Calls [] core core
  OneCall : (a : AnsweredCall) (calls : List AnsweredCall) (old mid new : Core) → IsCall a old mid → Calls calls mid new → Calls (a ∷ calls) old new

-- ---- what follows

-- After any calls of a new core the answers are the definition's, one by one, each on the history of the calls before it; and the core
-- stands for the history of them all.
abbrev pub CoresAnswerByTheirHistory : Type 0
CoresAnswerByTheirHistory =
    (calls : List AnsweredCall) (first last : Core) → StandsFor [] first → Calls calls first last
    → AreAnswered first.seat [] calls × StandsFor (history_after_all first.seat [] calls) last

-- where more messages are cast than there are numbers left, each call that a frame could carry finds the window full
abbrev pub NoNumberIsLeft : Type 0
NoNumberIsLeft =
    (load : Load) (old new : Core) → IsCore old → FitsFrame load → LAST_NUMBER < field old.time old.seat.me + length (payloads_of load)
    → ((result : Result (List ℕ × Entry) CastRefusal) (events : List Event) → IsCall (Cast load result events) old new → result ≡ Err casts.WindowFull)
    × ((result : Result (List ℕ × Entry) BurstRefusal) (events : List Event) → IsCall (Burst load result events) old new → result ≡ Err bursts.WindowFull)
