-- Happened-before (Lamport 1978, "The partial ordering"), over the lists of the members of a group.
use Rattle.std.specs.Prelude.{◌≡◌, ℕ, ◌<◌, Option, Some, List, length, slice_get}
use Rattle.cb_times.specs.declared.name.Name.{Name}
use Rattle.cb_causality.specs.declared.event.CausalEvent.{CausalEvent}
use Rattle.cb_causality.specs.declared.event.CausalEvent.TheVariants.{Cast, Deliver}

-- what each member's list of events is
abbrev pub Lists : Type 0
Lists = ℕ → List CausalEvent

-- where an event stands: in which member's list, and at which index
pub record Place : Type 0 where
  pub member : ℕ
  pub index : ℕ

-- the event at a place, where there is one
abbrev pub event_at : Lists → Place → Option CausalEvent
event_at lists place = slice_get (lists place.member) place.index

-- an event stands at the place
abbrev pub IsPlace : Lists → Place → Type 0
IsPlace lists place = place.index < length (lists place.member)

-- at the place m is cast
pub record IsCastAt (lists : Lists) (place : Place) (m : Name) : Type 0 where
  pub payload : List ℕ
  pub stands : event_at lists place ≡ Some (Cast m payload)

-- at the place m is delivered
pub record IsDeliveryAt (lists : Lists) (place : Place) (m : Name) : Type 0 where
  pub payload : List ℕ
  pub stands : event_at lists place ≡ Some (Deliver m payload)

-- one place leads directly to another
pub data Edge (lists : Lists) (from to : Place) : Type 0 where
  -- in one member's list what stands earlier comes before what stands later
  Later : from.member ≡ to.member → from.index < to.index → IsPlace lists to → Edge lists from to
  -- a cast precedes each delivery of its message
  Message : (m : Name) → IsCastAt lists from m → IsDeliveryAt lists to m → Edge lists from to

-- one place leads to another by one edge or more
pub data Path (lists : Lists) : Place → Place → Type 0 where
  One : {from to : Place} → Edge lists from to → Path lists from to
  On : {from next to : Place} → Edge lists from next → Path lists next to → Path lists from to

-- one message happened before another: a path leads from its cast to the other's cast
pub record HappenedBefore (lists : Lists) (earlier later : Name) : Type 0 where
  pub from : Place
  pub to : Place
  pub cast_earlier : IsCastAt lists from earlier
  pub cast_later : IsCastAt lists to later
  pub path : Path lists from to
