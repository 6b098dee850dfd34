-- What the members of a group do: each has a list of events, casts and deliveries of named messages.
use Rattle.std.specs.Prelude.{◌≡◌, ℕ, zero, suc, ◌+◌, Bool, true, false, if◌then◌else◌, ◌==◌, List, [], ◌∷◌, slice_get, Some, count_by}
use Rattle.cb_times.specs.declared.name.Name.{Name}
use Rattle.cb_causality.specs.declared.event.CausalEvent.{CausalEvent}
use Rattle.cb_causality.specs.declared.event.CausalEvent.TheVariants.{Cast, Deliver}

-- the message that an event casts or delivers
abbrev pub name_of : CausalEvent → Name
name_of (Cast m payload) = m
name_of (Deliver m payload) = m

-- what that message says
abbrev pub payload_of : CausalEvent → List ℕ
payload_of (Cast m payload) = payload
payload_of (Deliver m payload) = payload

-- the event is a cast
abbrev pub is_cast : CausalEvent → Bool
is_cast (Cast m payload) = true
is_cast (Deliver m payload) = false

-- the event is the cast of m
abbrev pub IsCastOf : Name → CausalEvent → Type 0
IsCastOf m e = (payload : List ℕ) × (e ≡ Cast m payload)

-- the event casts or delivers a message of member k
abbrev pub is_of : ℕ → CausalEvent → Bool
is_of k e = (name_of e).sender == k

-- how many messages of member k a list has, casts and deliveries
abbrev pub count : ℕ → List CausalEvent → ℕ
count k events = count_by (is_of k) events

-- how many casts a list has
abbrev pub casts_of : List CausalEvent → ℕ
casts_of events = count_by is_cast events

-- the name of the next cast of member i, whose list this is
abbrev pub next_name : ℕ → List CausalEvent → Name
next_name i events = record { sender = i; number = casts_of events + 1 }

-- the list has the message, as a cast or as a delivery
pub record Has (events : List CausalEvent) (m : Name) : Type 0 where
  pub index : ℕ
  pub event : CausalEvent
  pub stands : slice_get events index ≡ Some event
  pub named : name_of event ≡ m

-- the numbers of member k's messages in a list, in the order in which they stand
abbrev pub numbers_of : ℕ → List CausalEvent → List ℕ
numbers_of k [] = []
numbers_of k (e ∷ es) = if is_of k e then (name_of e).number ∷ numbers_of k es else numbers_of k es

-- a, a + 1, a + 2, and so on: n numbers
abbrev pub consecutive : ℕ → ℕ → List ℕ
consecutive a zero = []
consecutive a (suc n) = a ∷ consecutive (a + 1) n
