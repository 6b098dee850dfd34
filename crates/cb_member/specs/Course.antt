-- The course of a received cast: what must hold for it to be taken so, and what is done then.
use Rattle.std.specs.Prelude.{◌≡◌, ℕ, ◌+◌, ◌-◌, ◌≤◌, List, [], ◌∷◌, ◌++◌, length}
use Rattle.std.specs.FinMap as fin
use Rattle.std.specs.Vec.{vec_capacity, vec_len}
use Rattle.std.specs.declared.alloc.Global.{Global}
use Rattle.std.specs.declared.vec.Vec.{Vec}
use Rattle.cb_times.specs.Order.{field}
use Rattle.cb_frames.specs.Fields.{CastFields, first_number, last_number}
use Rattle.cb_delay.specs.declared.message.Event.{Event}
use Rattle.cb_delay.specs.Rule.{IsReady}
use Rattle.cb_diffs.specs.Expansion.{IsGrown, time_of}
use Rattle.cb_history.specs.Facts.{Fact, CastReceived, casts_in}
use Rattle.cb_history.specs.Known.{expanded_count}
use Rattle.cb_history.specs.LegalFacts.{AreFactsOf}
use Rattle.cb_history.specs.Singles.{IsSingle}
use Rattle.cb_member.specs.declared.arrival.course.Course.{Course}
use Rattle.cb_member.specs.declared.arrival.course.Course.TheVariants.{Early, Waits, Alone, AllAlone, LeadsOn, LetsGo}
use Rattle.cb_member.specs.declared.delivery.Delivery.{Delivery}
use Rattle.cb_member.specs.declared.state.State.{State}
use Rattle.cb_member.specs.Delivery.{Drains, NoneReady, LeavesWaiting}
use Rattle.cb_member.specs.Passing.{IsInOrder, burst_delivered}
use Rattle.cb_member.specs.Singles.{times_in}
use Rattle.cb_member.specs.State.{Keeps}
use Rattle.cb_member.specs.Taking.{CanFollow, CanTakeIn, WouldExpand, TakesInCast}

-- how many messages are delivered at most
abbrev pub most : Course → ℕ
most (Early spares) = 0
most (Waits time) = 0
most (Alone time) = 1
most (AllAlone time deliveries) = vec_len deliveries
most (LeadsOn time count) = count
most (LetsGo spares count) = count

-- no more than so many messages wait for the delay rule once the cast is taken in, and before anything is delivered
abbrev pub HoldsAtMost : CastFields → State → ℕ → Type 0
HoldsAtMost c state count =
    (facts : List Fact) → AreFactsOf state.seat (facts ++ CastReceived c ∷ []) → Keeps facts state
    → fin.len state.delivery.queue.held + (expanded_count (casts_in (facts ++ CastReceived c ∷ [])) c.sender - expanded_count (casts_in facts) c.sender) ≤ count

-- it waits for casts before it, lets none be expanded, and nothing that waits may be delivered
pub record IsEarly (c : CastFields) (spares : List (List ℕ)) (state : State) : Type 0 where
  pub can : CanTakeIn c spares state
  pub expands_none : WouldExpand c.sender (first_number c) (last_number c) state.reception 0
  pub none_ready : NoneReady state.delivery

-- it carries one message, comes in order, and this is its time
pub record HasTime (c : CastFields) (time : List ℕ) (state : State) : Type 0 where
  pub can : CanFollow c state
  pub single : IsSingle c
  pub in_order : IsInOrder c.sender (first_number c) state.reception
  pub grown : IsGrown (time_of state.reception.expander c.sender) c time
  pub size : length time ≡ state.seat.group.size

-- it may not be delivered, and nothing that waits may be
pub record MustWait (c : CastFields) (time : List ℕ) (state : State) : Type 0 where
  pub has_time : HasTime c time state
  pub not_ready : ¬ IsReady c.sender (field time) (field state.delivery.time)
  pub none_ready : NoneReady state.delivery

-- it may be delivered, and nothing that waits may be, then or before
pub record GoesAlone (c : CastFields) (time : List ℕ) (state : State) : Type 0 where
  pub has_time : HasTime c time state
  pub ready : IsReady c.sender (field time) (field state.delivery.time)
  pub leaves : LeavesWaiting c.sender state.delivery

-- it is a burst that comes in order, nothing is held, its first message may be delivered at this time of it, and these are all of its deliveries
pub record GoesAllAlone (c : CastFields) (time : List ℕ) (deliveries : List Event) (state : State) : Type 0 where
  pub can : CanFollow c state
  pub many : ¬ IsSingle c
  pub in_order : IsInOrder c.sender (first_number c) state.reception
  pub none_held : fin.len state.delivery.queue.held ≡ 0
  pub grown : IsGrown (time_of state.reception.expander c.sender) c time
  pub ready : IsReady c.sender (field time) (field state.delivery.time)
  pub are_all : deliveries ≡ burst_delivered c time

-- what a course asks for
abbrev pub CanGo : CastFields → Course → State → Type 0
CanGo c (Early spares) state = IsEarly c (times_in spares) state
CanGo c (Waits time) state = MustWait c time state
CanGo c (Alone time) state = GoesAlone c time state
CanGo c (AllAlone time deliveries) state = GoesAllAlone c time deliveries.items state
CanGo c (LeadsOn time count) state = HasTime c time state × HoldsAtMost c state count
CanGo c (LetsGo spares count) state = CanTakeIn c (times_in spares) state × HoldsAtMost c state count

-- as if the cast had been taken in, and what was ready had been delivered then
pub record TakesAndDelivers (c : CastFields) (old new : State) (before after : List Event) : Type 0 where
  pub waits : Delivery
  pub takes_in : TakesInCast c old (record new { delivery = waits })
  pub drains : Drains waits new.delivery before after

-- there is room for as many events as may wait once the cast is taken in
pub record HasRoomToDeliver (c : CastFields) (state : State) (events : Vec Event Global) : Type 0 where
  pub count : ℕ
  pub holds : HoldsAtMost c state count
  pub fits : vec_len events + count ≤ vec_capacity events

-- the cast was taken in, and what was ready joined the events: no more than may wait then
pub record DeliversWhatIsReady (c : CastFields) (old new : State) (before after : Vec Event Global) : Type 0 where
  pub takes : TakesAndDelivers c old new before.items after.items
  pub grows : vec_len before ≤ vec_len after
  pub few : (count : ℕ) → HoldsAtMost c old count → vec_len after ≤ vec_len before + count

-- as if the cast had been taken in, and nothing was ready
abbrev pub TakesAndWaits : CastFields → State → State → Type 0
TakesAndWaits c old new = (events : List Event) → TakesAndDelivers c old new events events
