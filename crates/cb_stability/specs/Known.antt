-- What is known of how far the members of a group have delivered.
use Rattle.std.specs.Prelude.{◌≡◌, ◌≢◌, ℕ, ◌<◌, ◌≤◌, List, [], slice_index, slice_index_or, max, refl}
use Rattle.cb_times.specs.Group.{IsGroupSize}
use Rattle.std.specs.Coded.{Coded, code_by, coded×, coded_list, coded_ℕ}

-- the size of the group, and for each member how many casts of each sender it is known to have delivered
pub record Known : Type 0 where
  pub size : ℕ
  pub delivered : List (List ℕ)

-- how many casts of sender i member k is known to have delivered, 0 where nothing is known
abbrev pub count : Known → ℕ → ℕ → ℕ
count known k i = slice_index (slice_index_or known.delivered k []) i

-- nothing is known of a group of this size
pub record IsUnknown (size : ℕ) (known : Known) : Type 0 where
  pub of_size : known.size ≡ size
  pub none : (k i : ℕ) → count known k i ≡ 0

-- it became known that member k has delivered c casts of sender i, and nothing else
pub record Learns (old new : Known) (k i c : ℕ) : Type 0 where
  pub size : new.size ≡ old.size
  pub learned : count new k i ≡ max (count old k i) c
  pub members : (m j : ℕ) → m ≢ k → count new m j ≡ count old m j
  pub senders : (m j : ℕ) → j ≢ i → count new m j ≡ count old m j

-- it became known that member k has delivered as many casts of each sender as the time says, and nothing else
pub record LearnsTime (old new : Known) (k : ℕ) (time : List ℕ) : Type 0 where
  pub size : new.size ≡ old.size
  pub learned : (i : ℕ) → i < old.size → count new k i ≡ max (count old k i) (slice_index time i)
  pub members : (m i : ℕ) → m ≢ k → count new m i ≡ count old m i
  pub senders : (m i : ℕ) → old.size ≤ i → count new m i ≡ count old m i

-- every member other than the sender i is known to have delivered its casts up to this number
abbrev pub IsStable : Known → ℕ → ℕ → Type 0
IsStable known i number = (k : ℕ) → k < known.size → k ≢ i → number ≤ count known k i

-- some member other than the sender i is known to have delivered this many of its casts, and no more
abbrev pub IsCountOfOther : Known → ℕ → ℕ → Type 0
IsCountOfOther known i number = (k : ℕ) × (k < known.size) × (k ≢ i) × (number ≡ count known k i)

-- what is true of all that is ever known
pub record IsKnown (known : Known) : Type 0 where
  pub group : IsGroupSize known.size

-- how it is stored: its fields as a pair
abbrev pub known_code : Coded Known
known_code =
    code_by (ℕ × List (List ℕ)) (coded× coded_ℕ (coded_list (coded_list coded_ℕ)))
    (λ k. (k.size, k.delivered)) (λ p. record { size = p.0; delivered = p.1 }) (λ _. refl)
