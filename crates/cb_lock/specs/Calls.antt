-- What the calls of a member under a lock answer and leave.
use Rattle.std.specs.Prelude.{◌≡◌, ◌⊎◌, ℕ, ◌+◌, ◌≤◌, List, [], ◌∷◌, length, map, Option, Some, None, Result, Err, IfOk, IfErr, OnErr, OnOk, if◌then◌else◌}
use Rattle.std.specs.declared.vec.Vec.{Vec}
use Rattle.std.specs.declared.alloc.Global.{Global}
use Rattle.cb_frames.specs.Fields.{Load, One, Many}
use Rattle.cb_history.specs.declared.answer.CastDone.{CastDone}
use Rattle.cb_history.specs.declared.answer.CastRefusal.{CastRefusal}
use Rattle.cb_history.specs.declared.answer.CastRefusal.TheVariants as casts
use Rattle.cb_history.specs.declared.answer.BurstDone.{BurstDone}
use Rattle.cb_history.specs.declared.answer.BurstRefusal.{BurstRefusal}
use Rattle.cb_history.specs.declared.answer.BurstRefusal.TheVariants as bursts
use Rattle.cb_history.specs.declared.answer.Arrival.{Arrival}
use Rattle.cb_history.specs.declared.answer.Arrival.TheVariants as reported
use Rattle.cb_history.specs.declared.answer.ArriveRefusal.{ArriveRefusal}
use Rattle.cb_history.specs.declared.answer.ArriveRefusal.TheVariants as arrivals
use Rattle.cb_history.specs.declared.answer.Outgoing.{Outgoing}
use Rattle.cb_history.specs.declared.answer.Ticked.{Ticked}
use Rattle.cb_history.specs.declared.answer.TickRefusal.{TickRefusal}
use Rattle.cb_history.specs.CastFault.{TellsFaultOf, TellsBurstFaultOf}
use Rattle.cb_history.specs.Facts.{EntryFields, CastEntry, ArriveEntry, TickEntry}
use Rattle.cb_history.specs.Legal.{ToCast, ToTake, ToTick}
use Rattle.cb_history.specs.State.{MemberState, IsMemberState, HasCast, HasCastBurst, HasTaken, HasTicked, RefusesTick, answer_to_cast, answer_to_arrival, entry_by, state_after}
use Rattle.cb_member.specs.Received.{HasTakenToSend}
use Rattle.cb_lock.specs.declared.payloads.Payloads.{Payloads}
use Rattle.cb_lock.specs.declared.payloads.Payloads.TheVariants as given
use Rattle.cb_lock.specs.declared.payloads.Tried.{Tried}
use Rattle.cb_lock.specs.declared.payloads.Tried.TheVariants as tried
use Rattle.cb_lock.specs.Receipts.{SeatState, and_claim}

-- ---- the entry that an answer reports, where it reports one

abbrev pub reported_by_cast : CastDone → Option EntryFields
reported_by_cast done = Some (CastEntry done.out)

abbrev pub reported_by_burst : BurstDone → Option EntryFields
reported_by_burst done = Some (CastEntry done.out)

abbrev pub reported_by_arrival : List ℕ → Arrival → Option EntryFields
reported_by_arrival bytes (reported.Accepted deliveries changed out) = if changed then Some (ArriveEntry bytes (map (λ m. m.name) deliveries.items)) else None
reported_by_arrival bytes reported.Repeat = None

-- the first frame that is sent, the status to all
abbrev pub first_bytes : List Outgoing → List ℕ
first_bytes [] = []
first_bytes (o ∷ os) = o.bytes

abbrev pub reported_by_tick : Ticked → Option EntryFields
reported_by_tick ticked = if ticked.entered then Some (TickEntry (first_bytes ticked.out.items)) else None

-- ---- the seat

-- the seat with a receipt more, where an entry was added to this member's history; its place is behind all others
abbrev pub and_receipt : SeatState → MemberState → Option EntryFields → SeatState
and_receipt seat m e = record { parts = seat.parts; receipts = and_claim seat.receipts (length m.entries + 1) e }

-- ---- refusals: that of the definition; and since room for the receipt is made first, memory may be out in place of any

abbrev pub MayRefuseCast : MemberState → Load → CastRefusal → Type 0
MayRefuseCast m load refusal = TellsFaultOf refusal (answer_to_cast m load) ⊎ (refusal ≡ casts.NoMemory)

abbrev pub MayRefuseBurst : MemberState → Load → BurstRefusal → Type 0
MayRefuseBurst m load refusal = TellsBurstFaultOf refusal (answer_to_cast m load) ⊎ (refusal ≡ bursts.NoMemory)

abbrev pub MayRefuseArrival : MemberState → List ℕ → ArriveRefusal → Type 0
MayRefuseArrival m bytes refusal = (answer_to_arrival m bytes ≡ Err refusal) ⊎ (refusal ≡ arrivals.NoMemory)

abbrev pub MayRefuseTick : MemberState → TickRefusal → Type 0
MayRefuseTick m refusal = RefusesTick m refusal

-- ---- a call under a lock

-- A member that a lock may keep while a seat with these receipts is held: it is legal, and its history has at least as many entries.
pub record CoversReceipts (seat : SeatState) (m : MemberState) : Type 0 where
  pub legal : IsMemberState m
  pub covered : length seat.receipts ≤ length m.entries

-- On this member the answer is the defined one, and the seat has a receipt of what the answer reports.
pub record CastsOn (m : MemberState) (old new : SeatState) (load : Load) (result : Result CastDone CastRefusal) : Type 0 where
  pub done : IfOk result (HasCast m (state_after m (ToCast load)) load)
  pub refused : IfErr result (MayRefuseCast m load)
  pub receipt : IfOk result (λ done. new ≡ and_receipt old m (reported_by_cast done))
  pub entry : IfOk result (λ done. entry_by m (ToCast load) ≡ reported_by_cast done)
  pub none : OnErr result (new ≡ old)

-- So of a burst.
pub record BurstsOn (m : MemberState) (old new : SeatState) (load : Load) (result : Result BurstDone BurstRefusal) : Type 0 where
  pub done : IfOk result (HasCastBurst m (state_after m (ToCast load)) load)
  pub refused : IfErr result (MayRefuseBurst m load)
  pub receipt : IfOk result (λ done. new ≡ and_receipt old m (reported_by_burst done))
  pub entry : IfOk result (λ done. entry_by m (ToCast load) ≡ reported_by_burst done)
  pub none : OnErr result (new ≡ old)

-- ---- payloads that are cast, and handed back with the answer

-- the load of a burst of these payloads
abbrev pub all_of : List (Vec ℕ Global) → Load
all_of payloads = Many (map (λ payload. payload.items) payloads)

-- These payloads were cast, or refused.
abbrev pub TriesOn : MemberState → SeatState → SeatState → Tried → Type 0
TriesOn m old new (tried.One payload result) = CastsOn m old new (One payload.items) result
TriesOn m old new (tried.Many payloads result) = BurstsOn m old new (all_of payloads.items) result

-- So of those that were given; without any the seat stays.
abbrev pub CastsIfGiven : MemberState → SeatState → SeatState → Option Tried → Type 0
CastsIfGiven m old new (Some t) = TriesOn m old new t
CastsIfGiven m old new None = new ≡ old

-- the payloads that are handed back
abbrev pub payloads_of : Tried → Payloads
payloads_of (tried.One payload result) = given.One payload
payloads_of (tried.Many payloads result) = given.Many payloads

pub record ArrivesOn (m : MemberState) (old new : SeatState) (bytes : List ℕ) (result : Result Arrival ArriveRefusal) : Type 0 where
  pub taken : IfOk result (HasTaken m (state_after m (ToTake bytes)) bytes)
  pub refused : IfErr result (MayRefuseArrival m bytes)
  pub receipt : IfOk result (λ arrival. new ≡ and_receipt old m (reported_by_arrival bytes arrival))
  pub entry : IfOk result (λ arrival. entry_by m (ToTake bytes) ≡ reported_by_arrival bytes arrival)
  pub none : OnErr result (new ≡ old)

-- An arrival of which only what is to be sent is answered: the receipt is of the entry that the definition adds.
pub record ReceivesOn (m : MemberState) (old new : SeatState) (bytes : List ℕ) (result : Result (Vec Outgoing Global) ArriveRefusal) : Type 0 where
  pub taken : IfOk result (λ out. HasTakenToSend m (state_after m (ToTake bytes)) bytes out.items)
  pub refused : IfErr result (MayRefuseArrival m bytes)
  pub receipt : OnOk result (new ≡ and_receipt old m (entry_by m (ToTake bytes)))
  pub none : OnErr result (new ≡ old)

pub record TicksOn (m : MemberState) (old new : SeatState) (result : Result Ticked TickRefusal) : Type 0 where
  pub done : IfOk result (HasTicked m (state_after m ToTick))
  pub refused : IfErr result (MayRefuseTick m)
  pub receipt : IfOk result (λ ticked. new ≡ and_receipt old m (reported_by_tick ticked))
  pub entry : IfOk result (λ ticked. entry_by m ToTick ≡ reported_by_tick ticked)
  pub none : OnErr result (new ≡ old)

-- Some legal member, whose history covers the seat's receipts, answered so.
abbrev pub OnSome : SeatState → (MemberState → Type 0) → Type 0
OnSome seat P = (m : MemberState) × CoversReceipts seat m × P m
