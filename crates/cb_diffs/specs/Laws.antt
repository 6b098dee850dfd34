-- The laws of expansion: one kept time for each sender gives what all its frames add up to.
use Rattle.std.specs.Prelude.{◌≡◌, ◌≢◌, ℕ, ◌+◌, ◌<◌, List, [], ◌∷◌, ◌++◌, length, min, replicate}
use Rattle.std.specs.List.{AllByRecursion, sum_by, zip}
use Rattle.cb_times.specs.Order.{field}
use Rattle.cb_frames.specs.Fields.{CastFields, first_number}
use Rattle.cb_diffs.specs.Expansion.{greatest, growth_of, expanded_time, last_in, time_of, CarrySome, Expands, ExpandsAll}

-- these frames carry some message each, and the kept times are what they add up to
pub record IsKept (size : ℕ) (casts : List CastFields) (kept : List (List ℕ)) : Type 0 where
  pub some : CarrySome casts
  pub senders : length kept ≡ size
  pub sizes : (j : ℕ) → j < size → length (time_of kept j) ≡ size
  pub own : (j : ℕ) → j < size → field (time_of kept j) j ≡ last_in casts j
  pub others : (j k : ℕ) → j < size → k < size → k ≢ j → field (time_of kept j) k ≡ min greatest (sum_by (growth_of j (last_in casts j) k) casts)

abbrev pub NothingIsKept : Type 0
NothingIsKept = (size : ℕ) → IsKept size [] (replicate size (replicate size 0))

-- An accepted cast follows its sender's last one, and its time is what its sender's frames up to it add up to.
pub record IsSum (size : ℕ) (casts : List CastFields) (c : CastFields) (time : List ℕ) (new : List (List ℕ)) : Type 0 where
  pub next : first_number c ≡ last_in casts c.sender + 1
  pub sum : time ≡ expanded_time size (casts ++ c ∷ []) c.sender (first_number c)
  pub kept : IsKept size (casts ++ c ∷ []) new

abbrev pub ExpandingIsSumming : Type 0
ExpandingIsSumming = (size : ℕ) (casts : List CastFields) (c : CastFields) (time : List ℕ) (old new : List (List ℕ)) → IsKept size casts old → Expands old c time new → IsSum size casts c time new

-- Over any casts that were accepted, each time that was given is the one that the increments add up to.
abbrev pub TimesAreSums : Type 0
TimesAreSums = (size : ℕ) (casts : List CastFields) (times new : List (List ℕ)) → ExpandsAll (replicate size (replicate size 0)) casts times new
    → AllByRecursion (λ given. given.1 ≡ expanded_time size casts given.0.sender (first_number given.0)) (zip casts times)
