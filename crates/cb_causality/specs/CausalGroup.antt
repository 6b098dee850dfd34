-- What the program of the causal machine says of its lists.
use Rattle.std.specs.Prelude.{◌≡◌, ℕ, ◌<◌, List, length, slice_get, Some}
use Rattle.cb_times.specs.declared.name.Name.{Name}
use Rattle.cb_causality.specs.declared.event.CausalEvent.{CausalEvent}
use Rattle.cb_causality.specs.declared.event.CausalEvent.TheVariants.{Cast, Deliver}
use Rattle.cb_causality.specs.CausalMachine.{MayDeliver, Run}
use Rattle.cb_causality.specs.Events.{name_of, next_name, Has}
use Rattle.cb_times.specs.Group.{IsGroupSize}
use Rattle.cb_causality.specs.HappenedBefore.{Lists}
use Rattle.cb_causality.specs.Lists.{lists_in, Appends}

-- the lists are a run of a group
pub record IsCausal (lists : List (List CausalEvent)) : Type 0 where
  pub size : IsGroupSize (length lists)
  pub run : Run (length lists) (lists_in lists)

-- member i has cast its next message, with this payload
abbrev pub CastsNext : Lists → Lists → ℕ → List ℕ → Type 0
CastsNext before after i payload = Appends before after i (Cast (next_name i (before i)) payload)

-- the receiver may deliver m, with the payload that it was cast with
abbrev pub IsDeliverable : Lists → ℕ → Name → Type 0
IsDeliverable lists receiver m = (payload : List ℕ) × MayDeliver lists receiver m payload

-- the receiver has delivered m, as it might
abbrev pub DeliversNow : Lists → Lists → ℕ → Name → Type 0
DeliversNow before after receiver m =
    (payload : List ℕ) × MayDeliver before receiver m payload × Appends before after receiver (Deliver m payload)

-- m is cast with this payload in the caster's list; the receiver's list does not have it, and has all that stands
-- before it there
pub record HasPastOf (caster receiver : List CausalEvent) (m : Name) (payload : List ℕ) : Type 0 where
  pub index : ℕ
  pub stands : slice_get caster index ≡ Some (Cast m payload)
  pub unseen : ¬ Has receiver m
  pub past : (k : ℕ) (e : CausalEvent) → k < index → slice_get caster k ≡ Some e → Has receiver (name_of e)

-- so it is with no payload
abbrev pub LacksPastOf : List CausalEvent → List CausalEvent → Name → Type 0
LacksPastOf caster receiver m = (payload : List ℕ) → ¬ HasPastOf caster receiver m payload
