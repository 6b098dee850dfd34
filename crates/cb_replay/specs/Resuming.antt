-- A member comes back by its history.
use Rattle.std.specs.Prelude.{◌≡◌, ℕ, ◌<◌, ◌≤◌, List, length, Result, Ok, Err}
use Rattle.cb_history.specs.Group.{Identity}
use Rattle.cb_history.specs.Facts.{EntryFields}
use Rattle.cb_history.specs.Legal.{longest_history, IsLegal}
use Rattle.cb_history.specs.State.{MemberState}
use Rattle.cb_replay.specs.declared.fault.ResumeFault.{ResumeFault}
use Rattle.cb_replay.specs.declared.fault.ResumeFault.TheVariants.{BadMember, BadLimit, TooLong, NotLegal, NoMemory}
use Rattle.cb_replay.specs.Replaying.{IsFirstWrong}

-- what a history's limit can be
abbrev pub IsLimit : ℕ → Type 0
IsLimit limit = (1 ≤ limit) × (limit ≤ longest_history)

-- the group has the member, and the limit has room for the entries
pub record CanHold (seat : Identity) (limit : ℕ) (entries : List EntryFields) : Type 0 where
  pub member : seat.me < seat.group.size
  pub is_limit : IsLimit limit
  pub room : length entries ≤ limit

-- the first of these that holds is answered: no such member, no such limit, too many entries, one that no call adds
abbrev pub SaysRefused : Identity → ℕ → List EntryFields → ResumeFault → Type 0
SaysRefused seat limit entries BadMember = seat.group.size ≤ seat.me
SaysRefused seat limit entries BadLimit = (seat.me < seat.group.size) × ¬ IsLimit limit
SaysRefused seat limit entries (TooLong count) = (seat.me < seat.group.size) × IsLimit limit × (limit < length entries) × (count ≡ length entries)
SaysRefused seat limit entries (NotLegal number) = CanHold seat limit entries × IsFirstWrong seat entries number
SaysRefused seat limit entries NoMemory = CanHold seat limit entries

-- the history is legal, and the member is the one that has it
pub record IsBack (seat : Identity) (limit : ℕ) (entries : List EntryFields) (m : MemberState) : Type 0 where
  pub can_hold : CanHold seat limit entries
  pub legal : IsLegal seat entries
  pub state : m ≡ record { seat = seat; limit = limit; entries = entries }

abbrev pub SaysResumed : Identity → ℕ → List EntryFields → Result MemberState ResumeFault → Type 0
SaysResumed seat limit entries (Ok m) = IsBack seat limit entries m
SaysResumed seat limit entries (Err fault) = SaysRefused seat limit entries fault
