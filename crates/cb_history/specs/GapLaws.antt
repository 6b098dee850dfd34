-- What is missing of a sender, and what one more fact does to it.
use Rattle.std.specs.Prelude.{◌≡◌, ℕ, ◌+◌, ◌<◌, ◌≤◌, ◌↔◌, false, List, [], ◌∷◌, ◌++◌, ◌⊎◌}
use Rattle.cb_gaps.specs.Ranges.{AreRangesOf}
use Rattle.cb_history.specs.Group.{Identity}
use Rattle.cb_history.specs.Facts.{Fact, casts_in, is_there}
use Rattle.cb_history.specs.Known.{known, expanded_count, missing, ranges_of}
use Rattle.cb_history.specs.Answers.{delivered}

-- a number stands in a list
abbrev pub Has : List ℕ → ℕ → Type 0
Has [] n = ⊥
Has (m ∷ ms) n = (m ≡ n) ⊎ Has ms n

-- a number that the sender is known to have used and whose cast is not there
pub record IsMissing (seat : Identity) (facts : List Fact) (i n : ℕ) : Type 0 where
  pub above : expanded_count (casts_in facts) i < n
  pub heard_of : n ≤ known facts i
  pub in_window : n ≤ delivered seat facts i + seat.group.window
  pub not_there : is_there (casts_in facts) i n ≡ false

abbrev pub MissingIsExact : Type 0
MissingIsExact = (seat : Identity) (facts : List Fact) (i n : ℕ) → Has (missing seat facts i) n ↔ IsMissing seat facts i n

-- what is missing stays so until its cast is there
abbrev pub MissingStays : Type 0
MissingStays = (seat : Identity) (facts : List Fact) (f : Fact) (i n : ℕ) → Has (missing seat facts i) n → is_there (casts_in (facts ++ f ∷ [])) i n ≡ false → Has (missing seat (facts ++ f ∷ []) i) n

-- and what is received to be missing by one more fact was not heard of before, or was beyond the window
abbrev pub MissingComes : Type 0
MissingComes = (seat : Identity) (facts : List Fact) (f : Fact) (i n : ℕ) → Has (missing seat (facts ++ f ∷ []) i) n
    → Has (missing seat facts i) n ⊎ (known facts i < n) ⊎ (delivered seat facts i + seat.group.window < n)

-- as ranges they are the ranges of these numbers
abbrev pub RangesOfMissing : Type 0
RangesOfMissing = (seat : Identity) (facts : List Fact) (i : ℕ) → AreRangesOf (IsMissing seat facts i) (ranges_of (missing seat facts i))
