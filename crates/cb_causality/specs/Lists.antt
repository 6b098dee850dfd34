-- A list of events for each member of a group.
use Rattle.std.specs.Prelude.{◌≡◌, ◌≢◌, ℕ, zero, suc, List, [], ◌∷◌, ◌++◌, map, slice_get, Some}
use Rattle.std.specs.declared.vec.Vec.{Vec}
use Rattle.std.specs.declared.alloc.Global.{Global}

-- the lists agree, member by member
abbrev pub Agree : {X : Type 0} → (ℕ → List X) → (ℕ → List X) → Type 0
Agree lists others = (k : ℕ) → lists k ≡ others k

-- x stands in the list of some member
abbrev pub StandsIn : {X : Type 0} → (ℕ → List X) → X → Type 0
StandsIn lists x = (member : ℕ) × (index : ℕ) × (slice_get (lists member) index ≡ Some x)

-- Member i's list has got x at its end, and the lists of all others are as before.
-- The lists are given as what each member's list is.
pub record Appends {X : Type 0} (before after : ℕ → List X) (i : ℕ) (x : X) : Type 0 where
  pub own : after i ≡ before i ++ x ∷ []
  pub others : (k : ℕ) → k ≢ i → after k ≡ before k

-- Member i's list has got these at its end, one after the other, and the lists of all others are as before.
pub record AppendsAll {X : Type 0} (before after : ℕ → List X) (i : ℕ) (xs : List X) : Type 0 where
  pub own : after i ≡ before i ++ xs
  pub others : (k : ℕ) → k ≢ i → after k ≡ before k

-- what a `Vec` of `Vec`s holds
abbrev pub contents : {X : Type 0} → List (Vec X Global) → List (List X)
contents vecs = map (λ v. v.items) vecs

-- each member's list, where the lists stand in the order of the members; empty past the group
abbrev pub lists_in : {X : Type 0} → List (List X) → ℕ → List X
lists_in [] k = []
lists_in (list ∷ lists) zero = list
lists_in (list ∷ lists) (suc k) = lists_in lists k

-- each member's list, where a `Vec` of `Vec`s holds them
abbrev pub lists_of : {X : Type 0} → List (Vec X Global) → ℕ → List X
lists_of vecs = lists_in (contents vecs)
