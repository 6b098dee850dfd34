-- What a member has received of the others' casts: what waits for those before it, and the times of what does not.
use Rattle.std.specs.Prelude.{◌≡◌, ◌≢◌, ℕ, ◌+◌, ◌<◌, ◌≤◌, All, List, [], length, map, replicate, slice_get, slice_index_or, Some}
use Rattle.std.specs.FinMap as fin
use Rattle.std.specs.Vec.{vec_capacity, vec_len}
use Rattle.std.specs.declared.vec.Vec.{Vec}
use Rattle.std.specs.declared.alloc.Global.{Global}
use Rattle.cb_gaps.specs.Buffer.{Buffer, IsNew}
use Rattle.cb_history.specs.Group.{Identity}
use Rattle.cb_history.specs.Facts.{Fact, casts_in}
use Rattle.cb_history.specs.Known.{expanded_count}
use Rattle.cb_history.specs.BufferLaws.{HoldsWhatWaits}
use Rattle.cb_history.specs.Singles.{singles_in}
use Rattle.cb_history.specs.ExpanderLaws.{KeepsTimeOf}
use Rattle.cb_member.specs.declared.reception.Reception.{Reception}

-- the spares as they lie in the reception: for each member some times
abbrev pub spares_in : Reception → List (List (List ℕ))
spares_in r = map (λ times. times.items) r.spares.items

-- how many of them are of this sender
abbrev pub spares_of : ℕ → Reception → ℕ
spares_of sender r = length (slice_index_or (spares_in r) sender [])

-- one for each single that waits in the buffer, each with a field for each member of a group of this size
pub record AreSparesOf (size : ℕ) (b : Buffer) (spares : List (List ℕ)) : Type 0 where
  pub count : length spares ≡ fin.len b.kept
  pub sizes : All (λ time. length time ≡ size) spares

-- nothing was received: a buffer for each member, from which nothing was taken and in which nothing waits
pub record IsNewReception (size window : ℕ) (r : Reception) : Type 0 where
  pub senders : length r.buffers.items ≡ size
  pub buffers : All (IsNew window) r.buffers.items
  pub expander : r.expander ≡ replicate size (replicate size 0)
  pub spares : spares_in r ≡ replicate size []

-- Of each other member's singles so many were taken, one after the other: what was is expanded, the others that are there wait in its
-- buffer, the expander keeps the time of the last one taken, and there is a spare for each that waits.
pub record HasReceived (seat : Identity) (facts : List Fact) (taken : ℕ → ℕ) (r : Reception) : Type 0 where
  pub senders : length r.buffers.items ≡ seat.group.size
  pub waits : (i : ℕ) (b : Buffer) → slice_get r.buffers.items i ≡ Some b → i ≢ seat.me → HoldsWhatWaits (singles_in facts) i b
  pub taken_are : (i : ℕ) (b : Buffer) → slice_get r.buffers.items i ≡ Some b → i ≢ seat.me → b.taken ≡ taken i
  pub windows : (i : ℕ) (b : Buffer) → slice_get r.buffers.items i ≡ Some b → b.window ≡ seat.group.window
  pub times : (i : ℕ) → i < seat.group.size → i ≢ seat.me → KeepsTimeOf seat facts i (taken i) r.expander
  pub stacks : length (spares_in r) ≡ seat.group.size
  pub spares : (i : ℕ) (b : Buffer) (spares : List (List ℕ)) → slice_get r.buffers.items i ≡ Some b → slice_get (spares_in r) i ≡ Some spares
      → AreSparesOf seat.group.size b spares

-- all that is expanded was taken
abbrev pub HasReceivedAll : Identity → List Fact → Reception → Type 0
HasReceivedAll seat facts r = HasReceived seat facts (expanded_count (casts_in facts)) r

-- nothing has changed but how much room there is
pub record IsAlike (old new : Reception) : Type 0 where
  pub buffers : new.buffers.items ≡ old.buffers.items
  pub expander : new.expander ≡ old.expander
  pub spares : spares_in new ≡ spares_in old

-- there is room for so many spares more of this sender
pub record HasPlaceFor (sender count : ℕ) (r : Reception) : Type 0 where
  pub times : Vec (List ℕ) Global
  pub at : slice_get r.spares.items sender ≡ Some times
  pub room : vec_len times + count ≤ vec_capacity times
