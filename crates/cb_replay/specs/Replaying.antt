-- A history is replayed: a member is called as each entry tells, and is to give just that entry.
use Rattle.std.specs.Prelude.{◌≡◌, ◌≢◌, ◌⊎◌, ℕ, ◌+◌, ◌≤◌, Bool, true, false, List, ◌∷◌, ◌++◌, length, Option, Some, None}
use Rattle.cb_history.specs.Group.{Identity}
use Rattle.cb_history.specs.Facts.{EntryFields}
use Rattle.cb_history.specs.Legal.{longest_history, Call, entry_of, IsLegal}
use Rattle.cb_history.specs.ReplayLaws.{call_of}
use Rattle.cb_history.specs.State.{MemberState, entry_by, state_after}

-- the call adds this entry, and the member is as after it
pub record HasAdded (old new : MemberState) (call : Call) (e : EntryFields) : Type 0 where
  pub added : entry_by old call ≡ Some e
  pub after : new ≡ state_after old call

-- the answer says whether the call adds this entry
abbrev pub SaysAdded : MemberState → MemberState → Call → EntryFields → Bool → Type 0
SaysAdded old new call e true = HasAdded old new call e
SaysAdded old new call e false = entry_by old call ≢ Some e

-- The first entry that a member without entries, replaying those before it, does not give: these are a legal history, and the call that
-- this one tells adds another entry to them, or none.
pub record IsFirstWrong (seat : Identity) (entries : List EntryFields) (number : ℕ) : Type 0 where
  pub before : List EntryFields
  pub wrong : EntryFields
  pub after : List EntryFields
  pub parts : entries ≡ before ++ wrong ∷ after
  pub place : number ≡ length before + 1
  pub legal : IsLegal seat before
  pub not_given : entry_of seat longest_history before (call_of wrong) ≢ Some wrong

-- the limit leaves room for these entries, or it is the greatest
abbrev pub HasRoom : ℕ → List EntryFields → Type 0
HasRoom limit entries = (length entries ≤ limit) ⊎ (limit ≡ longest_history)

-- the history is legal, and the member has it
pub record HasAll (old new : MemberState) (entries : List EntryFields) : Type 0 where
  pub legal : IsLegal old.seat entries
  pub same : new.seat ≡ old.seat
  pub limit : new.limit ≡ old.limit
  pub all : new.entries ≡ entries

-- the answer says which entry is the first wrong one, or that the member has the history, which is legal
abbrev pub SaysReplayed : MemberState → MemberState → List EntryFields → Option ℕ → Type 0
SaysReplayed old new entries (Some number) = IsFirstWrong old.seat entries number
SaysReplayed old new entries None = HasAll old new entries
