-- What a copy leaves in a caller's memory.
use Rattle.std.specs.Prelude.{ℕ, ◌+◌, ◌<◌, ◌≤◌, List, ◌++◌, length, take, drop}

-- a list over the front of another, where it fits
abbrev pub placed : {X : Type 0} → List X → List X → List X
placed from to = from ++ drop (length from) to

-- over the front of another, as far as it fits
abbrev pub copied : {X : Type 0} → List X → List X → List X
copied from to = take (length to) from ++ drop (length from) to

-- of so many the first `count` fit, and one more does not
pub record AreMost (Fits : ℕ → Type 0) (many count : ℕ) : Type 0 where
  pub upto : count ≤ many
  pub fit : Fits count
  pub no_more : count < many → ¬ Fits (count + 1)
