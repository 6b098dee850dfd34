-- A core is called as an entry tells, and is to add just that entry, whatever history it stands for.
use Rattle.std.specs.Prelude.{◌≡◌, ◌≢◌, Bool, true, false, List, [], ◌∷◌, ◌++◌, Some}
use Rattle.cb_delay.specs.declared.message.Event.{Event}
use Rattle.cb_history.specs.Facts.{EntryFields}
use Rattle.cb_history.specs.Legal.{Call}
use Rattle.cb_history.specs.State.{MemberState, entry_by, events_in}
use Rattle.cb_member.specs.CoreMember.{Core, OnEach, StandsFor, unlimited}

-- what one member has of events and the other has not joined the list
pub record HasJoined (old new : MemberState) (before after : List Event) : Type 0 where
  pub added : List Event
  pub joins : after ≡ before ++ added
  pub are : events_in new ≡ events_in old ++ added

-- To each history that the core stood for the call adds this entry. The core stands for that history with the entry, and the events that
-- the entry adds joined the list.
pub record HasAddedOnEach (old new : Core) (before after : List Event) (call : Call) (e : EntryFields) : Type 0 where
  pub seat : new.seat ≡ old.seat
  pub added : OnEach old (λ m. entry_by m call ≡ Some e)
  pub stands : (entries : List EntryFields) → StandsFor entries old → StandsFor (entries ++ e ∷ []) new
  pub events : (entries : List EntryFields) → StandsFor entries old → HasJoined (unlimited old.seat entries) (unlimited old.seat (entries ++ e ∷ [])) before after

-- the answer says whether the call adds this entry; else it adds it to no history that the core stood for
abbrev pub SaysAddedOnEach : Core → Core → List Event → List Event → Call → EntryFields → Bool → Type 0
SaysAddedOnEach old new before after call e true = HasAddedOnEach old new before after call e
SaysAddedOnEach old new before after call e false = OnEach old (λ m. entry_by m call ≢ Some e)
