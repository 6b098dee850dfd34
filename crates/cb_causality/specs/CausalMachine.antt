-- Causal broadcast as a machine. It knows lists and paths; it has no vectors, no buffers and no bytes of frames.
use Rattle.std.specs.Prelude.{◌≡◌, ◌≢◌, ℕ, ◌<◌, List, [], slice_get, Some}
use Rattle.cb_times.specs.declared.name.Name.{Name}
use Rattle.cb_causality.specs.declared.event.CausalEvent.TheVariants.{Cast, Deliver}
use Rattle.cb_causality.specs.Events.{next_name, Has}
use Rattle.cb_causality.specs.HappenedBefore.{Lists, HappenedBefore}
use Rattle.cb_causality.specs.Lists.{Appends}

-- The receiver may deliver m: another member has cast it, the receiver's list does not have it,
-- and the receiver's list has every message that happened before it.
pub record MayDeliver (lists : Lists) (receiver : ℕ) (m : Name) (payload : List ℕ) : Type 0 where
  pub caster : ℕ
  pub index : ℕ
  pub another : caster ≢ receiver
  pub stands : slice_get (lists caster) index ≡ Some (Cast m payload)
  pub unseen : ¬ Has (lists receiver) m
  pub closed : (earlier : Name) → HappenedBefore lists earlier m → Has (lists receiver) earlier

-- one step of a group of this size
pub data Step (size : ℕ) (before after : Lists) : Type 0 where
  -- member i casts its next message
  Casts : (i : ℕ) (payload : List ℕ) → i < size
      → Appends before after i (Cast (next_name i (before i)) payload) → Step size before after
  -- member j delivers a message that it may deliver
  Delivers : (j : ℕ) (m : Name) (payload : List ℕ) → j < size → MayDeliver before j m payload
      → Appends before after j (Deliver m payload) → Step size before after

-- the lists come about by steps, in any order, from empty lists
pub data Run (size : ℕ) : Lists → Type 0 where
  Start : (lists : Lists) → ((k : ℕ) → lists k ≡ []) → Run size lists
  Then : (before after : Lists) → Run size before → Step size before after → Run size after
