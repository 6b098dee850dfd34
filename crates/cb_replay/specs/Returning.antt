-- A core comes back by its entries, one by one.
use Rattle.std.specs.Prelude.{◌≡◌, ◌≢◌, ℕ, ◌+◌, ◌<◌, ◌≤◌, List, [], ◌∷◌, ◌++◌, length, Some, Result, Ok, Err, refl}
use Rattle.std.specs.Coded.{Coded, code_by, coded×, coded_ℕ}
use Rattle.cb_delay.specs.declared.message.Event.{Event}
use Rattle.cb_history.specs.Group.{Identity}
use Rattle.cb_history.specs.Facts.{EntryFields}
use Rattle.cb_history.specs.Legal.{AreEntriesOf}
use Rattle.cb_history.specs.ReplayLaws.{call_of}
use Rattle.cb_history.specs.State.{entry_by}
use Rattle.cb_member.specs.CoreMember.{Core, OnEach, StandsFor, core_code, unlimited}
use Rattle.cb_replay.specs.declared.fault.ResumeFault.{ResumeFault}
use Rattle.cb_replay.specs.declared.fault.ResumeFault.TheVariants.{BadMember, BadLimit, TooLong, NotLegal, NoMemory}
use Rattle.cb_replay.specs.CoreReplaying.{HasJoined}

-- a core on its way back, and how many entries it took
pub record ReturningState : Type 0 where
  pub core : Core
  pub taken : ℕ

-- It took these entries: they are the member's, each added by a call to those before it, and the core stands for them.
pub record HasTaken (entries : List EntryFields) (r : ReturningState) : Type 0 where
  pub stands : StandsFor entries r.core
  pub count : r.taken ≡ length entries

-- there are entries that it took
pub record IsReturning (r : ReturningState) : Type 0 where
  pub entries : List EntryFields
  pub taken : HasTaken entries r

-- whatever entries it took, it took this one behind them, and the events that the entry adds joined the list
pub record TakesOneMore (old new : ReturningState) (before after : List Event) (e : EntryFields) : Type 0 where
  pub seat : new.core.seat ≡ old.core.seat
  pub taken : (entries : List EntryFields) → HasTaken entries old → HasTaken (entries ++ e ∷ []) new
  pub events : (entries : List EntryFields) → HasTaken entries old → HasJoined (unlimited old.core.seat entries) (unlimited old.core.seat (entries ++ e ∷ [])) before after

-- so it is with a list that was empty
abbrev pub TakesOne : ReturningState → ReturningState → EntryFields → Type 0
TakesOne old new e = (added : List Event) × TakesOneMore old new [] added e

-- no call adds this entry to those that it took, and the number is that behind them; or there was no memory
abbrev pub RefusesOneMore : ReturningState → EntryFields → ResumeFault → Type 0
RefusesOneMore r e BadMember = ⊥
RefusesOneMore r e BadLimit = ⊥
RefusesOneMore r e (TooLong count) = ⊥
RefusesOneMore r e (NotLegal number) = (number ≡ r.taken + 1) × OnEach r.core (λ m. entry_by m (call_of e) ≢ Some e)
RefusesOneMore r e NoMemory = Unit {0}

-- ---- a whole history

-- The first entry that no call adds to those before it, however many these are: they are the member's, and the call that this one tells
-- adds another entry to them, or none.
pub record IsFirstNotAdded (seat : Identity) (entries : List EntryFields) (number : ℕ) : Type 0 where
  pub before : List EntryFields
  pub wrong : EntryFields
  pub after : List EntryFields
  pub parts : entries ≡ before ++ wrong ∷ after
  pub place : number ≡ length before + 1
  pub legal : AreEntriesOf seat before
  pub not_added : entry_by (unlimited seat before) (call_of wrong) ≢ Some wrong

-- the core is this member's, the entries are such a member's, and it stands for them
pub record IsCoreBack (seat : Identity) (entries : List EntryFields) (core : Core) : Type 0 where
  pub seat_is : core.seat ≡ seat
  pub legal : AreEntriesOf seat entries
  pub stands : StandsFor entries core

-- the group has no such member, or an entry is the first that no call adds; or there was no memory for the core
abbrev pub SaysCoreRefused : Identity → List EntryFields → ResumeFault → Type 0
SaysCoreRefused seat entries BadMember = seat.group.size ≤ seat.me
SaysCoreRefused seat entries BadLimit = ⊥
SaysCoreRefused seat entries (TooLong count) = ⊥
SaysCoreRefused seat entries (NotLegal number) = IsFirstNotAdded seat entries number
SaysCoreRefused seat entries NoMemory = seat.me < seat.group.size

abbrev pub SaysCoreResumed : Identity → List EntryFields → Result Core ResumeFault → Type 0
SaysCoreResumed seat entries (Ok core) = IsCoreBack seat entries core
SaysCoreResumed seat entries (Err fault) = SaysCoreRefused seat entries fault

-- the same of one that is not finished
abbrev pub SaysTaken : Identity → List EntryFields → Result ReturningState ResumeFault → Type 0
SaysTaken seat entries (Ok r) = (r.core.seat ≡ seat) × HasTaken entries r
SaysTaken seat entries (Err fault) = SaysCoreRefused seat entries fault

-- ---- how it is stored: its fields as pairs

abbrev pub returning_code : Coded ReturningState
returning_code = code_by (Core × ℕ) (coded× core_code coded_ℕ) (λ r. (r.core, r.taken)) (λ p. record { core = p.0; taken = p.1 }) (λ _. refl)
