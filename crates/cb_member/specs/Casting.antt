-- How a cast is made from what is kept, and what is kept of it.
use Rattle.std.specs.Prelude.{◌≡◌, ◌⊎◌, ℕ, ◌≤◌, List, [], ◌∷◌, ◌++◌, length, Option, Result, Ok, Err, IsOk}
use Rattle.cb_frames.specs.Fields.{Load, load_bytes, payloads_of, Carried, CastFrame, messages_of}
use Rattle.cb_frames.specs.Laws.{IsBytes}
use Rattle.cb_frames.specs.Text.{text_of}
use Rattle.cb_delay.specs.declared.message.Message.{Message}
use Rattle.cb_stability.specs.Sent.{room_of}
use Rattle.cb_history.specs.declared.answer.BurstDone.{BurstDone}
use Rattle.cb_history.specs.declared.answer.BurstRefusal.{BurstRefusal}
use Rattle.cb_history.specs.declared.answer.BurstRefusal.TheVariants as bursts
use Rattle.cb_history.specs.declared.answer.CastDone.{CastDone}
use Rattle.cb_history.specs.declared.answer.CastRefusal.{CastRefusal}
use Rattle.cb_history.specs.declared.answer.CastRefusal.TheVariants as casts
use Rattle.cb_history.specs.CastFault.{CastFault, IsFault, TellsBurstFaultOf, TellsFaultOf}
use Rattle.cb_history.specs.Group.{Identity}
use Rattle.cb_history.specs.Facts.{EntryFields, Fact, OwnCast, facts_of}
use Rattle.cb_history.specs.Load.{FitsFrame}
use Rattle.cb_history.specs.View.{counts, view}
use Rattle.cb_history.specs.Answers.{cast_answer, next_cast}
use Rattle.cb_history.specs.LegalFacts.{AreFactsOf}
use Rattle.cb_history.specs.State.{MemberState, answer_to_cast}
use Rattle.cb_member.specs.declared.own_cast.Casting.{Casting}
use Rattle.cb_member.specs.declared.state.State.{State}
use Rattle.cb_member.specs.State.{IsState, Keeps, OnAll}

-- the member's time with its next cast
abbrev pub next_time : Identity → List Fact → Load → List ℕ
next_time seat facts load = counts seat.group.size (view seat.group.size facts ++ messages_of (next_cast seat facts load))

-- a message that is cast behind what was seen, with the time with it
abbrev pub message_at : ℕ → List Carried → Carried → Message
message_at size seen m = record { name = record { sender = m.sender; number = m.number }; time = counts size (seen ++ m ∷ []); payload = m.payload }

-- several, one behind the other
abbrev pub timed : ℕ → List Carried → List Carried → List Message
timed size seen [] = []
timed size seen (m ∷ ms) = message_at size seen m ∷ timed size (seen ++ m ∷ []) ms

-- the next own messages
abbrev pub next_messages : Identity → List Fact → Load → List Message
next_messages seat facts load = timed seat.group.size (view seat.group.size facts) (messages_of (next_cast seat facts load))

-- the messages of a cast that is made, and the time of the last of some
abbrev pub messages_made : Casting → List Message
messages_made casting = casting.first ∷ casting.others.items

abbrev pub time_of_last : Message → List Message → List ℕ
time_of_last m [] = m.time
time_of_last m (n ∷ ms) = time_of_last n ms

abbrev pub next_text : Identity → List Fact → Load → List ℕ
next_text seat facts load = text_of (CastFrame (next_cast seat facts load))

-- the load is of bytes, a frame can carry it, and there is room in the sent window for its messages
pub record CanCast (state : State) (load : Load) : Type 0 where
  pub bytes : IsBytes (load_bytes load)
  pub fits : FitsFrame load
  pub room : length (payloads_of load) ≤ room_of state.sending.window

-- the load is refused by what is told so, whatever the history's limit
abbrev pub RefusesLoad : Identity → List Fact → Load → Option CastFault → Type 0
RefusesLoad seat facts load told =
    (limit : ℕ) (entries : List EntryFields) → facts_of entries ≡ facts → IsFault told (cast_answer seat limit entries load)

-- whether the load can be cast, and if not, why, as the refusals of the call tell it
abbrev pub JudgesLoad : {R : Type 0} → (R → Option CastFault) → State → Load → Result (Unit {0}) R → Type 0
JudgesLoad told_by state load (Ok done) = CanCast state load
JudgesLoad told_by state load (Err refusal) = OnAll state (λ facts. RefusesLoad state.seat facts load (told_by refusal))

-- the next cast of this load on these facts
pub record IsCasting (seat : Identity) (facts : List Fact) (load : Load) (casting : Casting) : Type 0 where
  pub messages : messages_made casting ≡ next_messages seat facts load
  pub out : casting.out ≡ next_text seat facts load
  pub sent : casting.sent ≡ next_text seat facts load

abbrev pub MakesCasting : State → Load → Casting → Type 0
MakesCasting state load casting = OnAll state (λ facts. IsCasting state.seat facts load casting)

-- nothing has changed but what is left of the block for frames
abbrev pub IsSameButBlock : State → State → Type 0
IsSameButBlock old new = new ≡ record old { block = new.block }

-- there is room in the sent window for so many messages, and this is the time with the next cast
pub record CanKeepCast (time sent : List ℕ) (count : ℕ) (state : State) : Type 0 where
  pub state_is : IsState state
  pub some : 1 ≤ count
  pub room : count ≤ room_of state.sending.window
  pub size : length time ≡ state.seat.group.size

-- the cast is kept with whatever was
pub record HasKept (time sent : List ℕ) (count : ℕ) (old new : State) : Type 0 where
  pub seat : new.seat ≡ old.seat
  pub keeps : (facts : List Fact) (load : Load) → AreFactsOf old.seat (facts ++ OwnCast (next_cast old.seat facts load) ∷ [])
      → Keeps facts old → time ≡ next_time old.seat facts load → sent ≡ next_text old.seat facts load → count ≡ length (payloads_of load)
      → Keeps (facts ++ OwnCast (next_cast old.seat facts load) ∷ []) new

-- what is told of a burst of one message is what is told of that cast
abbrev pub as_cast_done : BurstDone → CastDone
as_cast_done done = record { name = done.first; time = done.time; out = done.out }

-- the refusal is that of the definition; out of memory stands only in place of a cast
abbrev pub RefusesExactly : MemberState → Load → CastRefusal → Type 0
RefusesExactly m load refusal =
    TellsFaultOf refusal (answer_to_cast m load) ⊎ ((refusal ≡ casts.NoMemory) × IsOk (answer_to_cast m load))

-- and that of a burst
abbrev pub RefusesBurstExactly : MemberState → Load → BurstRefusal → Type 0
RefusesBurstExactly m load refusal =
    TellsBurstFaultOf refusal (answer_to_cast m load) ⊎ ((refusal ≡ bursts.NoMemory) × IsOk (answer_to_cast m load))
