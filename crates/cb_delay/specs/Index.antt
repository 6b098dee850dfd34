-- How the index of a delay queue stands to what is held.
use Rattle.std.specs.Prelude.{◌≡◌, ◌≢◌, ℕ, ◌+◌, ◌<◌, ◌≤◌, ◌↔◌, ◌==◌, List, length, slice_index, slice_index_or, replicate, All, Any, Option, Some, None, cond}
use Rattle.std.specs.Int.{bit_at}
use Rattle.cb_times.specs.Order.{field}
use Rattle.cb_delay.specs.declared.index.Index.{Index}
use Rattle.cb_delay.specs.declared.message.Message.{Message}
use Rattle.cb_delay.specs.declared.place.Place.{Place}
use Rattle.cb_delay.specs.declared.place.Place.TheVariants.{Free, Ready, Waits}
use Rattle.cb_delay.specs.Lists.{IsRun, HasSomeReady, list_of}

-- none of the sender's messages comes next at this time
abbrev pub LacksNext : ℕ → List Message → List ℕ → Type 0
LacksNext sender list now = All (λ message. message.name.number ≢ field now sender + 1) list

-- this message of the list does, and no other
pub record IsCandidate (sender : ℕ) (list : List Message) (now : List ℕ) (candidate : Message) : Type 0 where
  pub is_in : Any (λ message. message ≡ candidate) list
  pub next : candidate.name.number ≡ field now sender + 1
  pub only : All (λ message. message.name.number ≡ field now sender + 1 → message ≡ candidate) list

-- the one that comes next needs so many messages of another member, which are not there
pub record LacksField (sender : ℕ) (list : List Message) (now : List ℕ) (member value : ℕ) : Type 0 where
  pub of_other : member ≢ sender
  pub within : member < length now
  pub missing : field now member < value
  pub needs : All (λ message. message.name.number ≡ field now sender + 1 → field message.time member ≡ value) list

-- the place says where the sender's candidate stands at this time
abbrev pub IsPlaced : ℕ → List Message → List ℕ → Place → Type 0
IsPlaced sender list now Free = LacksNext sender list now
IsPlaced sender list now Ready = HasSomeReady sender now list
IsPlaced sender list now (Waits member value) = LacksField sender list now member value

abbrev pub place_of : List Place → ℕ → Place
place_of places i = slice_index_or places i Free

-- the lists of an index are of its size, and only members are stale or wait
pub record IsShaped (size : ℕ) (last : List ℕ) (places : List Place) (waiting : List ℕ) (stale : ℕ) : Type 0 where
  pub some : 1 ≤ size
  pub most : size ≤ 64
  pub time_size : length last ≡ size
  pub places_size : length places ≡ size
  pub waiting_size : length waiting ≡ size
  pub members : (i : ℕ) → size ≤ i → bit_at stale i ≡ 0
  pub walkers : (member i : ℕ) → size ≤ i → bit_at (slice_index waiting member) i ≡ 0

abbrev pub AreRuns : List (List Message) → Type 0
AreRuns lists = (sender : ℕ) → IsRun (length lists) sender (list_of lists sender)

-- what the index says of all who are not stale
pub record IsTold (lists : List (List Message)) (last : List ℕ) (places : List Place) (waiting : List ℕ) (ready stale : ℕ) : Type 0 where
  pub placed : (i : ℕ) → i < length last → bit_at stale i ≡ 0 → IsPlaced i (list_of lists i) last (place_of places i)
  pub ready_ones : (i : ℕ) → bit_at stale i ≡ 0 → (bit_at ready i ≡ 1) ↔ (place_of places i ≡ Ready)
  pub waits : (i member value : ℕ) → bit_at stale i ≡ 0 → place_of places i ≡ Waits member value → bit_at (slice_index waiting member) i ≡ 1

abbrev pub HasShape : ℕ → Index → Type 0
HasShape size index = IsShaped size index.last index.places.items index.waiting.items index.stale

abbrev pub Tells : List (List Message) → Index → Type 0
Tells lists index = IsTold lists index.last index.places.items index.waiting.items index.ready index.stale

abbrev pub IsIndex : List (List Message) → Index → Type 0
IsIndex lists index = HasShape (length lists) index × Tells lists index

-- the index of an empty queue, where nothing is delivered
pub record IsFresh (size : ℕ) (index : Index) : Type 0 where
  pub last : index.last ≡ replicate size 0
  pub places : index.places.items ≡ replicate size Free
  pub waiting : index.waiting.items ≡ replicate size 0
  pub ready : index.ready ≡ 0
  pub stale : index.stale ≡ 0
  pub looked : index.looked ≡ 0

-- the time at which nobody need be looked at
abbrev pub settled_at : Index → Option (List ℕ)
settled_at index = cond (index.stale == 0) (Some index.last) None
