-- Sets of numbers as ranges, and numbers of a set that stand in a row.
use Rattle.std.specs.Prelude.{◌≡◌, ℕ, ◌+◌, ◌<◌, ◌≤◌, ◌↔◌, nat_lt, nat_le, ◌&&◌, if◌then◌else◌, List, [], ◌∷◌, Any, All, AllPairs}
use Rattle.cb_frames.specs.declared.frame.Range.{Range}

-- the number is one of the range, both ends of which are in it
abbrev pub IsWithin : ℕ → Range → Type 0
IsWithin number range = (range.first ≤ number) × (number ≤ range.last)

-- the ranges of these numbers: each number of the set stands in one, and no other number does.
-- They rise, none is empty, and between each two some number is missing from the set.
pub record AreRangesOf (numbers : ℕ → Type 0) (ranges : List Range) : Type 0 where
  pub exactly : (number : ℕ) → Any (IsWithin number) ranges ↔ numbers number
  pub filled : All (λ range. range.first ≤ range.last) ranges
  pub apart : AllPairs (λ earlier later. earlier.last + 2 ≤ later.first) ranges

-- the number lies in one of these ranges
abbrev pub IsInSome : List Range → ℕ → Type 0
IsInSome ranges number = Any (IsWithin number) ranges

-- One set has one list of ranges: where each of two lists is the ranges of the other's numbers, they are the same.
abbrev pub RangesAreOneList : Type 0
RangesAreOneList = (ranges others : List Range) → AreRangesOf (IsInSome others) ranges → AreRangesOf (IsInSome ranges) others → ranges ≡ others

-- the numbers above `before`, up to `last`, as one range or none
abbrev pub gap_between : ℕ → ℕ → List Range
gap_between before last = if nat_lt before last then record { first = before + 1; last = last } ∷ [] else []

-- one of the numbers first to last is of this set
pub record HasOne (numbers : ℕ → Type 0) (first last : ℕ) : Type 0 where
  pub number : ℕ
  pub from : first ≤ number
  pub upto : number ≤ last
  pub is : numbers number

-- the numbers of a set in a row behind this number: each up to the last one is of the set, and the one behind the last is not
pub record IsRow (numbers : ℕ → Type 0) (behind last : ℕ) : Type 0 where
  pub begins : behind ≤ last
  pub each : (number : ℕ) → behind < number → number ≤ last → numbers number
  pub ends : ¬ numbers (last + 1)

-- where a row that ended here ends with the numbers first to last: they lengthen it where one of them is the next
abbrev pub end_with : ℕ → ℕ → ℕ → ℕ
end_with end first last = if nat_le first (end + 1) && nat_le (end + 1) last then last else end
