-- What a keeper has of the entries that go to it, also where it fails in the end. What becomes of a keeper by the call in which it fails
-- nobody says: behind that these facts speak of some keeper, and so bind a body that is written for any keeper, which has no other one
-- than that before the call. Of one particular device they say nothing then.
use Rattle.std.specs.Prelude.{◌≡◌, List, Option, None}
use Rattle.cb_history.specs.Facts.{EntryFields}
use Rattle.cb_journal.specs.declared.keeper.KeepFault.{KeepFault}

-- This may be the keeper as it was behind the last entry that it kept: while none failed it is as it is now.
abbrev pub IsLastOf : {K : Type 0} → K → Option KeepFault → K → Type 0
IsLastOf keeper fault last = fault ≡ None → last ≡ keeper

-- A keeper that had these entries behind the last one that it had kept has those behind the last one that it has kept since. Where nothing
-- fails that is what it has now. From where it fails nothing more is kept.
pub record KeepsFrom {K : Type 0} (has : K → List EntryFields → Type 0) (after : K) (old new : Option KeepFault) (entries kept : List EntryFields) (was : K) : Type 0 where
  pub last : K
  pub is_last : IsLastOf after new last
  pub was_alive : new ≡ None → old ≡ None
  pub had : has was entries → has last kept

-- so it is whatever the keeper was behind the last entry that it had kept
pub record Keeps {K : Type 0} (has : K → List EntryFields → Type 0) (before after : K) (old new : Option KeepFault) (entries kept : List EntryFields) : Type 0 where
  pub each : (was : K) → IsLastOf before old was → KeepsFrom has after old new entries kept was
