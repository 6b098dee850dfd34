-- The order of vector times: field by field, as Birman, Schiper and Stephenson compare them (1991, section 4).
-- A time is seen here as what it has at each field; a field that it lacks is 0.
use Rattle.std.specs.Prelude.{◌≡◌, ℕ, ◌<◌, ◌≤◌, List, slice_index}
use Rattle.cb_times.specs.declared.order.TimeOrder.{TimeOrder}
use Rattle.cb_times.specs.declared.order.TimeOrder.TheVariants.{Before, After, Same, Concurrent}

-- what a list of fields has at field k
abbrev pub field : List ℕ → ℕ → ℕ
field time k = slice_index time k

-- no field of a is above b's
abbrev pub AtMost : (ℕ → ℕ) → (ℕ → ℕ) → Type 0
AtMost a b = (k : ℕ) → a k ≤ b k

-- and some field differs
abbrev pub Less : (ℕ → ℕ) → (ℕ → ℕ) → Type 0
Less a b = AtMost a b × ((k : ℕ) × (a k < b k))

-- a and b compare so; where neither is at most the other they are concurrent
abbrev pub Compares : (ℕ → ℕ) → (ℕ → ℕ) → TimeOrder → Type 0
Compares a b Before = Less a b
Compares a b After = Less b a
Compares a b Same = (k : ℕ) → a k ≡ b k
Compares a b Concurrent = ¬ AtMost a b × ¬ AtMost b a
