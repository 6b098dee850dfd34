-- What a core answers to its calls, whatever history it stands for.
use Rattle.std.specs.Prelude.{◌≡◌, ◌≢◌, ◌⊎◌, ℕ, Bool, true, false, List, [], ◌++◌, length, map, drop, Option, Some, None, option_map, Result, Ok, Err, IfOk, IfErr, OnErr}
use Rattle.cb_frames.specs.Fields.{Load, CastFrame, unit_fields}
use Rattle.cb_frames.specs.Laws.{IsBytes}
use Rattle.cb_history.specs.Read.{frame_read}
use Rattle.cb_frames.specs.Text.{text_of}
use Rattle.cb_delay.specs.declared.message.Event.{Event}
use Rattle.cb_delay.specs.declared.message.Event.TheVariants.{Deliver}
use Rattle.cb_delay.specs.declared.message.Message.{Message}
use Rattle.cb_history.specs.declared.answer.ArriveRefusal.{ArriveRefusal}
use Rattle.cb_history.specs.declared.answer.ArriveRefusal.TheVariants as refusals
use Rattle.cb_history.specs.declared.answer.BurstDone.{BurstDone}
use Rattle.cb_history.specs.declared.answer.BurstRefusal.{BurstRefusal}
use Rattle.cb_history.specs.declared.answer.CastRefusal.{CastRefusal}
use Rattle.cb_history.specs.declared.answer.TickRefusal.{TickRefusal}
use Rattle.cb_history.specs.declared.history.Entry.{Entry}
use Rattle.cb_history.specs.Answers.{burst_done}
use Rattle.cb_history.specs.CastFault.{CastFault, IsFault}
use Rattle.cb_history.specs.EventLaws.{new_events}
use Rattle.cb_history.specs.Facts.{CastEntry, EntryFields, OwnCast, entry_fields}
use Rattle.cb_history.specs.Legal.{ToCast, ToTake, ToTick}
use Rattle.cb_history.specs.State.{MemberState, HasTicked, RefusesArrival, RefusesTick, answer_to_arrival, answer_to_cast, entry_by, facts_in, next_in, state_after}
use Rattle.cb_member.specs.declared.core_member.arriving.Coming.{Coming}
use Rattle.cb_member.specs.declared.wanted.Asked.{Asked}
use Rattle.cb_member.specs.declared.wanted.Made.{Made}
use Rattle.cb_member.specs.declared.wanted.Told.{Told}
use Rattle.cb_member.specs.declared.wanted.Wanted.{Wanted}
use Rattle.cb_member.specs.declared.own_cast.Casting.{Casting}
use Rattle.cb_member.specs.declared.received.Received.{Received}
use Rattle.cb_member.specs.declared.wanted.Taken.{Taken}
use Rattle.cb_member.specs.declared.state.State.{State}
use Rattle.cb_member.specs.Arriving.{IsNew}
use Rattle.cb_member.specs.Asked.{asks_answer, may_add, wants_answer, wants_entry, with_entry}
use Rattle.cb_member.specs.Casting.{CanCast, MakesCasting, RefusesBurstExactly, RefusesExactly}
use Rattle.cb_member.specs.CoreMember.{Core, GoesOn, IsCore, OnEach, core_of}
use Rattle.cb_member.specs.Course.{CanGo, most}
use Rattle.cb_member.specs.Foreseen.{AreCopies}
use Rattle.cb_member.specs.Knowledge.{delivered_by}
use Rattle.cb_member.specs.Received.{HasOpened, count_said, received_says}

-- ---- casts

-- the events that joined these
abbrev pub added : List Event → List Event → List Event
added before after = drop (length before) after

-- the definition casts this load, and this is its frame, its entry, and its events
pub record HasCastWith (m : MemberState) (load : Load) (cast : List ℕ × Entry) (events : List Event) : Type 0 where
  pub answer : answer_to_cast m load ≡ Ok (next_in m load)
  pub frame : cast.0 ≡ text_of (CastFrame (next_in m load))
  pub entry : entry_by m (ToCast load) ≡ Some (entry_fields cast.1)
  pub events_are : events ≡ new_events m.seat (facts_in m) (OwnCast (next_in m load))

-- what is told of a cast whose first message has this time
abbrev pub done_at : Made → List ℕ → BurstDone
done_at made time = record { first = made.first; count = made.count; time = time; out = made.out }

-- it is what the definition tells, with the time
pub record TellsCast (load : Load) (core : Core) (made : Made) : Type 0 where
  pub time : List ℕ
  pub time_is : made.time ≡ Some time
  pub done : OnEach core (λ m. done_at made time ≡ burst_done m.seat (facts_in m) (next_in m load))

-- a cast of this load was made: its events joined the events, this is its frame and that of its entry, and the copies that are wanted are there
pub record JoinsCastOnEach (wanted : Wanted) (load : Load) (old new : Core) (before after : List Event) (cast : Made × List ℕ) : Type 0 where
  pub goes_on : GoesOn (ToCast load) old new
  pub answer : OnEach old (λ m. answer_to_cast m load ≡ Ok (next_in m load))
  pub frame : OnEach old (λ m. cast.0.out ≡ text_of (CastFrame (next_in m load)))
  pub entry : OnEach old (λ m. entry_by m (ToCast load) ≡ Some (CastEntry cast.1))
  pub joins : OnEach old (λ m. after ≡ before ++ new_events m.seat (facts_in m) (OwnCast (next_in m load)))
  pub told : wants_answer wanted ≡ true → TellsCast load old cast.0
  pub noted : wants_entry wanted ≡ true → cast.0.noted ≡ Some cast.1

pub record AnswersLoadInto {R : Type 0} (Refuses : MemberState → Load → R → Type 0) (wanted : Wanted) (load : Load) (old new : Core) (before after : List Event) (result : Result (Made × List ℕ) R) : Type 0 where
  pub core : IsCore new
  pub casts : IfOk result (JoinsCastOnEach wanted load old new before after)
  pub refused : IfErr result (λ refusal. OnEach old (λ m. Refuses m load refusal))
  pub same : OnErr result (new ≡ old)
  pub same_events : OnErr result (after ≡ before)

abbrev pub AnswersCastInto : Wanted → Load → Core → Core → List Event → List Event → Result (Made × List ℕ) CastRefusal → Type 0
AnswersCastInto wanted load old new before after result = AnswersLoadInto RefusesExactly wanted load old new before after result

abbrev pub AnswersBurstInto : Wanted → Load → Core → Core → List Event → List Event → Result (Made × List ℕ) BurstRefusal → Type 0
AnswersBurstInto wanted load old new before after result = AnswersLoadInto RefusesBurstExactly wanted load old new before after result

-- the next cast of this load is made
pub record CanKeepOnEach (load : Load) (state : State) (casting : Casting) : Type 0 where
  pub core : IsCore (core_of state)
  pub can : CanCast state load
  pub makes : MakesCasting state load casting

pub record IsMade (casting : Casting) (state : State) : Type 0 where
  pub load : Load
  pub can : CanKeepOnEach load state casting

-- it is kept and its events join the events, or there was no memory
pub record HasJoinedMade {E : Type 0} (wanted : Wanted) (load : Load) (old new : Core) (before after : List Event) (result : Result (Made × List ℕ) E) : Type 0 where
  pub core : IsCore new
  pub casts : IfOk result (JoinsCastOnEach wanted load old new before after)
  pub same : OnErr result (new ≡ old)
  pub same_events : OnErr result (after ≡ before)

abbrev pub JoinsMade : {E : Type 0} → Wanted → Casting → State → State → List Event → List Event → Result (Made × List ℕ) E → Type 0
JoinsMade wanted casting old new before after result =
    (load : Load) → CanKeepOnEach load old casting → HasJoinedMade wanted load (core_of old) (core_of new) before after result

-- whether the definition answers a cast, or why it refuses one, as the refusals of the call tell it
abbrev pub MayCast : {R : Type 0} → (R → Option CastFault) → Load → Core → Result (Unit {0}) R → Type 0
MayCast told_by load core (Ok done) = OnEach core (λ m. answer_to_cast m load ≡ Ok (next_in m load))
MayCast told_by load core (Err refusal) = OnEach core (λ m. IsFault (told_by refusal) (answer_to_cast m load))

-- ---- ticks

-- the status was sent, and this is its entry, where it is new; where a copy of that is wanted, there is one
pub record TicksOnEach (wanted : Wanted) (old new : Core) (told : Told × Option Entry) : Type 0 where
  pub goes_on : GoesOn ToTick old new
  pub done : OnEach old (λ m. HasTicked m (state_after m ToTick) told.0.ticked)
  pub entry : OnEach old (λ m. entry_by m ToTick ≡ option_map entry_fields told.1)
  pub noted : wants_entry wanted ≡ true → option_map entry_fields told.0.noted ≡ option_map entry_fields told.1

pub record AnswersTickOnEach (wanted : Wanted) (old new : Core) (result : Result (Told × Option Entry) TickRefusal) : Type 0 where
  pub core : IsCore new
  pub ticks : IfOk result (TicksOnEach wanted old new)
  pub refused : IfErr result (λ refusal. OnEach old (λ m. RefusesTick m refusal))
  pub same : OnErr result (new ≡ old)

-- ---- received bytes

-- the messages whose deliveries joined the events
abbrev pub joined : List Event → List Event → List Message
joined before after = delivered_by (added before after)

-- received bytes were taken, or were a repeat, as the definition says, and these messages are what they deliver
pub record HasReceivedWith (old new : MemberState) (bytes : List ℕ) (r : Received) (messages : List Message) : Type 0 where
  pub answer : answer_to_arrival old bytes ≡ Ok (received_says r messages)
  pub count : count_said r ≡ length messages
  pub after : new ≡ state_after old (ToTake bytes)

-- so it is on each history that the core may stand for
abbrev pub ReceivesOnEach : Core → List ℕ → Received → List Message → Type 0
ReceivesOnEach core bytes r messages = OnEach core (λ m. HasReceivedWith m (state_after m (ToTake bytes)) bytes r messages)

-- this is the entry that each of them has of the bytes, if any
abbrev pub HasEntryOnEach : Core → List ℕ → Option Entry → Type 0
HasEntryOnEach core bytes noted = OnEach core (λ m. entry_by m (ToTake bytes) ≡ option_map entry_fields noted)

-- they are refused so on each
abbrev pub RefusesOnEach : Core → List ℕ → ArriveRefusal → Type 0
RefusesOnEach core bytes refusal = OnEach core (λ m. RefusesArrival m bytes refusal)

-- the events are those of before, and behind them the deliveries of these messages
abbrev pub JoinsAs : List Message → List Event → List Event → Type 0
JoinsAs messages before after = after ≡ before ++ map (λ m. Deliver m) messages

-- what they deliver joined the events; their entry, if any, joined the entries, where that is asked for; and so are the copies there
pub record HearsOnEach (asked : Asked) (bytes : List ℕ) (old new : Core) (before after : List Event) (entries later : List Entry) (taken : Taken) : Type 0 where
  pub goes_on : GoesOn (ToTake bytes) old new
  pub taken_is : ReceivesOnEach old bytes taken.received (joined before after)
  pub joins : JoinsAs (joined before after) before after
  pub count : count_said taken.received ≡ length (joined before after)
  pub entry : Option EntryFields
  pub entry_is : OnEach old (λ m. entry_by m (ToTake bytes) ≡ entry)
  pub within : may_add asked ≡ false → entry ≡ None
  pub enters : map entry_fields later ≡ with_entry asked (map entry_fields entries) entry
  pub deliveries : asks_answer asked ≡ true → taken.deliveries.items ≡ joined before after

-- the bytes are refused; or an entry of them would be added, where none may be, and the history is full
abbrev pub RefusesWithin : Bool → MemberState → List ℕ → ArriveRefusal → Type 0
RefusesWithin may_enter m bytes refusal =
    RefusesArrival m bytes refusal ⊎ ((may_enter ≡ false) × (refusal ≡ refusals.HistoryFull) × (entry_by m (ToTake bytes) ≢ None))

pub record AnswersArrivalOnEach (asked : Asked) (bytes : List ℕ) (old new : Core) (before after : List Event) (entries later : List Entry) (result : Result Taken ArriveRefusal) : Type 0 where
  pub core : IsCore new
  pub hears : IfOk result (HearsOnEach asked bytes old new before after entries later)
  pub refused : IfErr result (λ refusal. OnEach old (λ m. RefusesWithin (may_add asked) m bytes refusal))
  pub same : OnErr result (new ≡ old)
  pub same_events : OnErr result (after ≡ before)
  pub same_entries : OnErr result (later ≡ entries)

-- this is said, and nothing was made
pub record IsUnchanged (received : Received) (taken : Taken) : Type 0 where
  pub received_is : taken.received ≡ received
  pub deliveries : taken.deliveries.items ≡ []

-- the cast is that of these bytes, its frame, and new, and has its course; and so are copies of what it delivers, where they are asked for
pub record CanCome (answer : Bool) (bytes : List ℕ) (core : State) (coming : Coming) : Type 0 where
  pub core_is : IsCore (core_of core)
  pub bytes_are : IsBytes bytes
  pub read : frame_read bytes ≡ Ok (CastFrame (unit_fields coming.unit))
  pub frame : coming.frame ≡ bytes
  pub new : IsNew (unit_fields coming.unit) core
  pub can_go : CanGo (unit_fields coming.unit) coming.course core
  pub copies : answer ≡ true → AreCopies (unit_fields coming.unit) coming.course core coming.deliveries.items

pub record IsComing (coming : Coming) (core : State) : Type 0 where
  pub answer : Bool
  pub can : CanCome answer coming.frame core coming

-- it was taken, and is answered so
pub record HasCome (asked : Asked) (bytes : List ℕ) (old new : Core) (before after : List Event) (entries later : List Entry) (taken : Taken) : Type 0 where
  pub core : IsCore new
  pub hears : HearsOnEach asked bytes old new before after entries later taken

-- where its entries were opened behind those that there were
abbrev pub Comes : Asked → Coming → State → State → List Event → List Event → List Entry → List Entry → Taken → Type 0
Comes asked coming old new before after opened later taken =
    (bytes : List ℕ) (started : List Entry) → may_add asked ≡ true → CanCome (asks_answer asked) bytes old coming → HasOpened asked bytes (most coming.course) started opened
    → HasCome asked bytes (core_of old) (core_of new) before after started later taken
