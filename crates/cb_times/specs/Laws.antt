-- The laws of the order of times, each of all times.
use Rattle.std.specs.Prelude.{◌≡◌, ℕ, List}
use Rattle.cb_times.specs.declared.order.TimeOrder.{TimeOrder}
use Rattle.cb_times.specs.declared.order.TimeOrder.TheVariants.{Before, After, Same, Concurrent}
use Rattle.cb_times.specs.Order.{field, AtMost, Compares}
use Rattle.cb_times.specs.Time.{IsRaised}

abbrev pub AtMostIsReflexive : Type 0
AtMostIsReflexive = (a : ℕ → ℕ) → AtMost a a

abbrev pub AtMostIsTransitive : Type 0
AtMostIsTransitive = (a b c : ℕ → ℕ) → AtMost a b → AtMost b c → AtMost a c

-- times that are at most each other are equal at every field
abbrev pub AtMostIsAntisymmetric : Type 0
AtMostIsAntisymmetric = (a b : ℕ → ℕ) → AtMost a b → AtMost b a → (k : ℕ) → a k ≡ b k

-- how b compares with a where a compares with b so
abbrev pub mirror : TimeOrder → TimeOrder
mirror Before = After
mirror After = Before
mirror Same = Same
mirror Concurrent = Concurrent

abbrev pub ComparesMirrored : Type 0
ComparesMirrored = (a b : ℕ → ℕ) (order : TimeOrder) → Compares a b order → Compares b a (mirror order)

-- one of the four holds, for lists of fields of any length
abbrev pub ComparesSomehow : Type 0
ComparesSomehow = (a b : List ℕ) → (order : TimeOrder) × Compares (field a) (field b) order

-- no two of the four hold
abbrev pub ComparesInOneWay : Type 0
ComparesInOneWay = (a b : ℕ → ℕ) (order other : TimeOrder) → Compares a b order → Compares a b other → order ≡ other

-- a raised time is at least each of the two
abbrev pub RaisedIsUpperBound : Type 0
RaisedIsUpperBound =
    (old other new : List ℕ) → IsRaised old other new → AtMost (field old) (field new) × AtMost (field other) (field new)

-- and at most any time that is at least each of the two
abbrev pub RaisedIsLeast : Type 0
RaisedIsLeast =
    (old other new : List ℕ) (bound : ℕ → ℕ)
    → IsRaised old other new → AtMost (field old) bound → AtMost (field other) bound → AtMost (field new) bound
