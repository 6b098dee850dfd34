-- What a member holds, and what its calls do to it.
use Rattle.std.specs.Prelude.{◌≡◌, ◌≢◌, ◌⊎◌, ℕ, ◌<◌, ◌≤◌, Bool, nat_lt, List, length, map, Option, Some, None, Result, Ok, Err, if◌then◌else◌}
use Rattle.cb_frames.specs.Fields.{Load, CastFields, StatusFields, Carried}
use Rattle.cb_frames.specs.Reading.{HasValue}
use Rattle.cb_history.specs.Read.{frame_read}
use Rattle.cb_history.specs.declared.history.Entry.{Entry}
use Rattle.cb_history.specs.declared.answer.CastDone.{CastDone}
use Rattle.cb_history.specs.declared.answer.CastRefusal.{CastRefusal}
use Rattle.cb_history.specs.declared.answer.CastRefusal.TheVariants as casts
use Rattle.cb_history.specs.declared.answer.BurstDone.{BurstDone}
use Rattle.cb_history.specs.declared.answer.BurstRefusal.{BurstRefusal}
use Rattle.cb_history.specs.declared.answer.BurstRefusal.TheVariants as bursts
use Rattle.cb_history.specs.declared.answer.Arrival.{Arrival}
use Rattle.cb_history.specs.declared.answer.ArriveRefusal.{ArriveRefusal}
use Rattle.cb_history.specs.declared.answer.ArriveRefusal.TheVariants as arrivals
use Rattle.cb_history.specs.declared.answer.Outgoing.{Outgoing}
use Rattle.cb_history.specs.declared.answer.Ticked.{Ticked}
use Rattle.cb_history.specs.declared.answer.TickRefusal.{TickRefusal}
use Rattle.cb_history.specs.declared.answer.TickRefusal.TheVariants as ticks
use Rattle.cb_history.specs.declared.answer.HelpFault.{HelpFault}
use Rattle.cb_history.specs.declared.answer.HelpFault.TheVariants as helps
use Rattle.cb_history.specs.Load.{FitsFrame}
use Rattle.cb_history.specs.CastFault.{CastFault, TellsFaultOf, TellsBurstFaultOf}
use Rattle.cb_history.specs.Group.{Identity}
use Rattle.cb_history.specs.Facts.{EntryFields, Fact, entry_fields, facts_of}
use Rattle.cb_delay.specs.declared.message.Event.{Event}
use Rattle.cb_history.specs.View.{view, time_of}
use Rattle.cb_history.specs.Events.{events}
use Rattle.cb_history.specs.Known.{missing, stable, stable_of}
use Rattle.cb_history.specs.Helping.{help_answer}
use Rattle.cb_history.specs.Answers.{status_of, next_cast, cast_answer, cast_done, burst_done, arrive_answer, ArrivalSays, arrival_says, tick_answer}
use Rattle.cb_history.specs.Legal.{longest_history, IsLegal, Call, ToCast, ToTake, ToTick, entry_of, history_after}

-- the member, how many entries its history may have, and those that it has
pub record MemberState : Type 0 where
  pub seat : Identity
  pub limit : ℕ
  pub entries : List EntryFields

-- a member with these entries, as they lie in memory
abbrev pub state_of : Identity → ℕ → List Entry → MemberState
state_of seat limit entries = record { seat = seat; limit = limit; entries = map entry_fields entries }

-- what is true of those of every member: the history is legal
pub record IsMemberState (m : MemberState) : Type 0 where
  pub legal : IsLegal m.seat m.entries
  pub one_or_more : 1 ≤ m.limit
  pub at_most : m.limit ≤ longest_history
  pub room : length m.entries ≤ m.limit

-- what its entries say
abbrev pub facts_in : MemberState → List Fact
facts_in m = facts_of m.entries

-- its quantities
abbrev pub time_in : MemberState → List ℕ
time_in m = time_of m.seat.group.size (facts_in m)

abbrev pub view_in : MemberState → List Carried
view_in m = view m.seat.group.size (facts_in m)

abbrev pub events_in : MemberState → List Event
events_in m = events m.seat (facts_in m)

abbrev pub missing_in : MemberState → ℕ → List ℕ
missing_in m i = missing m.seat (facts_in m) i

abbrev pub stable_in : MemberState → ℕ
stable_in m = stable m.seat (facts_in m)

-- of the casts of i, where the group has a member i
abbrev pub stable_of_in : MemberState → ℕ → Option ℕ
stable_of_in m i = if nat_lt i m.seat.group.size then Some (stable_of m.seat (facts_in m) i) else None

-- what it would cast next
abbrev pub next_in : MemberState → Load → CastFields
next_in m load = next_cast m.seat (facts_in m) load

abbrev pub status_in : MemberState → StatusFields
status_in m = status_of m.seat (facts_in m)

-- ---- calls

-- the entry that a call adds, and what the member holds after it
abbrev pub entry_by : MemberState → Call → Option EntryFields
entry_by m call = entry_of m.seat m.limit m.entries call

abbrev pub state_after : MemberState → Call → MemberState
state_after m call = record { seat = m.seat; limit = m.limit; entries = history_after m.seat m.limit m.entries call }

-- the answer to a call, by its definition
abbrev pub answer_to_cast : MemberState → Load → Result CastFields CastFault
answer_to_cast m load = cast_answer m.seat m.limit m.entries load

abbrev pub answer_to_arrival : MemberState → List ℕ → Result ArrivalSays ArriveRefusal
answer_to_arrival m bytes = arrive_answer m.seat m.limit m.entries bytes

abbrev pub answer_to_tick : MemberState → Result (Bool × List Outgoing) TickRefusal
answer_to_tick m = tick_answer m.seat m.limit m.entries

abbrev pub answer_to_help : MemberState → ℕ → Result (Option Outgoing) HelpFault
answer_to_help m i = help_answer m.seat m.entries i

-- a cast of this load was made
pub record HasCast (old new : MemberState) (load : Load) (done : CastDone) : Type 0 where
  pub answer : answer_to_cast old load ≡ Ok (next_cast old.seat (facts_in old) load)
  pub reported : done ≡ cast_done old.seat (facts_in old) (next_cast old.seat (facts_in old) load)
  pub after : new ≡ state_after old (ToCast load)

-- or it was refused. A member that has to look at its whole history may be out of memory in place of most answers.
abbrev pub RefusesCast : MemberState → Load → CastRefusal → Type 0
RefusesCast m load refusal = TellsFaultOf refusal (answer_to_cast m load) ⊎ ((refusal ≡ casts.NoMemory) × FitsFrame load)

-- a burst of this load was cast
pub record HasCastBurst (old new : MemberState) (load : Load) (done : BurstDone) : Type 0 where
  pub answer : answer_to_cast old load ≡ Ok (next_cast old.seat (facts_in old) load)
  pub reported : done ≡ burst_done old.seat (facts_in old) (next_cast old.seat (facts_in old) load)
  pub after : new ≡ state_after old (ToCast load)

-- or it was refused
abbrev pub RefusesBurst : MemberState → Load → BurstRefusal → Type 0
RefusesBurst m load refusal = TellsBurstFaultOf refusal (answer_to_cast m load) ⊎ ((refusal ≡ bursts.NoMemory) × FitsFrame load)

-- received bytes were taken, or were a repeat
pub record HasTaken (old new : MemberState) (bytes : List ℕ) (arrival : Arrival) : Type 0 where
  pub answer : answer_to_arrival old bytes ≡ Ok (arrival_says arrival)
  pub after : new ≡ state_after old (ToTake bytes)

-- or they were refused; bytes that are no frame are refused without memory
abbrev pub RefusesArrival : MemberState → List ℕ → ArriveRefusal → Type 0
RefusesArrival m bytes refusal =
    (answer_to_arrival m bytes ≡ Err refusal) ⊎ ((refusal ≡ arrivals.NoMemory) × HasValue (frame_read bytes))

-- the status was sent, and what is missing was asked for
pub record HasTicked (old new : MemberState) (ticked : Ticked) : Type 0 where
  pub answer : answer_to_tick old ≡ Ok (ticked.entered, ticked.out.items)
  pub after : new ≡ state_after old ToTick

abbrev pub RefusesTick : MemberState → TickRefusal → Type 0
RefusesTick m refusal = (answer_to_tick m ≡ Err refusal) ⊎ (refusal ≡ ticks.NoMemory)

-- help was not asked for; there is memory enough where the sender is none that has missing casts
abbrev pub RefusesHelp : MemberState → ℕ → HelpFault → Type 0
RefusesHelp m i fault =
    (answer_to_help m i ≡ Err fault) ⊎ ((fault ≡ helps.NoMemory) × (i < m.seat.group.size) × (i ≢ m.seat.me))
