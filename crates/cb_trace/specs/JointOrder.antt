-- In which order all entries of some histories can have been made. An order names, each time, the member whose next entry goes.
use Rattle.std.specs.Prelude.{◌≡◌, ℕ, ◌+◌, ◌<◌, ◌==◌, List, [], ◌∷◌, ◌++◌, length, slice_get, Option, Some, if◌then◌else◌}
use Rattle.cb_history.specs.Facts.{EntryFields, CastEntry, ArriveEntry, TickEntry}

-- the entries of each member, by its number
abbrev pub Histories : Type 0
Histories = ℕ → List EntryFields

-- how many entries of member k have gone
abbrev pub gone : List ℕ → ℕ → ℕ
gone [] k = 0
gone (i ∷ order) k = (if i == k then 1 else 0) + gone order k

-- the one that goes next, where one is left
abbrev pub next_entry : Histories → List ℕ → ℕ → Option EntryFields
next_entry histories order k = slice_get (histories k) (gone order k)

-- the entry put these bytes out: a cast its frame, a tick its status
abbrev pub PutsOut : EntryFields → List ℕ → Type 0
PutsOut (CastEntry frame) bytes = frame ≡ bytes
PutsOut (ArriveEntry frame delivered) bytes = ⊥
PutsOut (TickEntry status) bytes = status ≡ bytes

-- some entry that has gone, of any member, put them out
pub record AreSentOut (histories : Histories) (order : List ℕ) (bytes : List ℕ) : Type 0 where
  pub member : ℕ
  pub place : ℕ
  pub entry : EntryFields
  pub went : place < gone order member
  pub stands : slice_get (histories member) place ≡ Some entry
  pub out : PutsOut entry bytes

-- a cast and a tick may go always, an arrival once its bytes were sent
abbrev pub MayGo : Histories → List ℕ → EntryFields → Type 0
MayGo histories order (CastEntry frame) = Unit {0}
MayGo histories order (ArriveEntry frame delivered) = AreSentOut histories order frame
MayGo histories order (TickEntry status) = Unit {0}

-- member k has an entry left, and it may go
pub record Goes (histories : Histories) (order : List ℕ) (k : ℕ) : Type 0 where
  pub entry : EntryFields
  pub next : next_entry histories order k ≡ Some entry
  pub may : MayGo histories order entry

-- each entry goes behind those of its member that stand before it, and an arrival behind what put its bytes out
pub data IsOrder (histories : Histories) : List ℕ → Type 0 where
  NothingGone : IsOrder histories []
  OneMoreGoes : (order : List ℕ) (k : ℕ) → IsOrder histories order → Goes histories order k → IsOrder histories (order ++ k ∷ [])

-- and all have gone
pub record IsJointOrder (histories : Histories) (order : List ℕ) : Type 0 where
  pub order_is : IsOrder histories order
  pub all : (k : ℕ) → gone order k ≡ length (histories k)

-- ---- the one that is looked for

-- member k is the smallest whose next entry may go
pub record GoesFirst (histories : Histories) (order : List ℕ) (k : ℕ) : Type 0 where
  pub goes : Goes histories order k
  pub smallest : (i : ℕ) → i < k → ¬ Goes histories order i

-- each time the smallest member goes whose next entry may
pub data IsGreedy (histories : Histories) : List ℕ → Type 0 where
  NothingTaken : IsGreedy histories []
  SmallestTaken : (order : List ℕ) (k : ℕ) → IsGreedy histories order → GoesFirst histories order k → IsGreedy histories (order ++ k ∷ [])

-- no entry may go
abbrev pub IsStuck : Histories → List ℕ → Type 0
IsStuck histories order = (k : ℕ) → ¬ Goes histories order k
