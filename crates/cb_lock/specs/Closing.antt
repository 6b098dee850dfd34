-- What closing a shared member answers.
use Rattle.std.specs.Prelude.{◌≡◌, ◌≢◌, ℕ, ◌<◌, ◌≤◌, List, length, Some}
use Rattle.cb_history.specs.Group.{Identity}
use Rattle.cb_history.specs.State.{MemberState}
use Rattle.cb_lock.specs.declared.closing.CloseFault.{CloseFault}
use Rattle.cb_lock.specs.declared.closing.CloseFault.TheVariants as faults
use Rattle.cb_lock.specs.Receipts.{SeatState}
use Rattle.cb_lock.specs.Claims.{AreClaimed, receipts_of, claims_of, FirstWrong}

-- the seats have as many receipts as the history has entries, or more
abbrev pub AreEnough : MemberState → List SeatState → Type 0
AreEnough m seats = length m.entries ≤ length (receipts_of seats)

-- the member that sharing began with, whose history the receipts claim
pub record IsClosed (identity : Identity) (m : MemberState) (seats : List SeatState) : Type 0 where
  pub enough : AreEnough m seats
  pub member : m.seat ≡ identity
  pub claimed : AreClaimed m.entries seats

-- some receipt is wrong, and this is the place of the first
pub record IsMismatch (identity : Identity) (m : MemberState) (seats : List SeatState) (place : ℕ) : Type 0 where
  pub enough : AreEnough m seats
  pub member : m.seat ≡ identity
  pub first : FirstWrong m.entries (claims_of seats) (Some place)

-- the first fault: seats are missing, the lock holds another member, a receipt is wrong
abbrev pub IsFault : Identity → MemberState → List SeatState → CloseFault → Type 0
IsFault identity m seats (faults.SeatsMissing claimed entries) = (claimed ≡ length (receipts_of seats)) × (entries ≡ length m.entries) × (claimed < entries)
IsFault identity m seats faults.OtherMember = AreEnough m seats × (m.seat ≢ identity)
IsFault identity m seats (faults.ReceiptMismatch place) = IsMismatch identity m seats place
IsFault identity m seats faults.NoMemory = AreEnough m seats × (m.seat ≡ identity)
