-- Worked counts of a group of three: what times tell of member 1.
use Rattle.std.proofs.Common.{◌≡◌, ◌≢◌, ℕ, zero, suc, ◌<◌, ◌≤◌, List, [], ◌∷◌, arith, refl}
use Rattle.std.specs.Prelude.{max, slice_index}
use Rattle.cb_stability.specs.Known.{Known, count, LearnsTime}
use Rattle.cb_stability.specs.Rows.{known_of}

abbrev known_with : List ℕ → Known
known_with counts = known_of ((0 ∷ 0 ∷ 7 ∷ []) ∷ counts ∷ (0 ∷ 0 ∷ 5 ∷ []) ∷ [])

others_stay : (old new : List ℕ) (m i : ℕ) → m ≢ 1 → count (known_with new) m i ≡ count (known_with old) m i
others_stay old new zero i other = refl
others_stay old new (suc zero) i other = absurd (other refl)
others_stay old new (suc (suc m)) i other = refl

beyond_stay : (a b c d e f : ℕ) (m i : ℕ) → 3 ≤ i → count (known_with (d ∷ e ∷ f ∷ [])) m i ≡ count (known_with (a ∷ b ∷ c ∷ [])) m i
beyond_stay a b c d e f zero i beyond = refl
beyond_stay a b c d e f (suc zero) zero beyond = absurd (omega (arith, beyond))
beyond_stay a b c d e f (suc zero) (suc zero) beyond = absurd (omega (arith, beyond))
beyond_stay a b c d e f (suc zero) (suc (suc zero)) beyond = absurd (omega (arith, beyond))
beyond_stay a b c d e f (suc zero) (suc (suc (suc i))) beyond = refl
beyond_stay a b c d e f (suc (suc m)) i beyond = refl

-- two casts of member 0 and one of its own, and then a time of 1, 3 and 4: each count becomes the greater
greater_of : (i : ℕ) → i < 3 → count (known_with (2 ∷ 3 ∷ 4 ∷ [])) 1 i ≡ max (count (known_with (2 ∷ 1 ∷ 0 ∷ [])) 1 i) (slice_index (1 ∷ 3 ∷ 4 ∷ []) i)
greater_of zero low = refl
greater_of (suc zero) low = refl
greater_of (suc (suc zero)) low = refl
greater_of (suc (suc (suc i))) low = absurd (omega (arith, low))

learnt : LearnsTime (known_with (2 ∷ 1 ∷ 0 ∷ [])) (known_with (2 ∷ 3 ∷ 4 ∷ [])) 1 (1 ∷ 3 ∷ 4 ∷ [])
learnt = record { size = refl; learned = greater_of; members = others_stay (2 ∷ 1 ∷ 0 ∷ []) (2 ∷ 3 ∷ 4 ∷ []); senders = beyond_stay 2 1 0 2 3 4 }

-- a time that comes late, here 1, 3 and 0, changes nothing
none_of : (i : ℕ) → i < 3 → count (known_with (2 ∷ 3 ∷ 4 ∷ [])) 1 i ≡ max (count (known_with (2 ∷ 3 ∷ 4 ∷ [])) 1 i) (slice_index (1 ∷ 3 ∷ 0 ∷ []) i)
none_of zero low = refl
none_of (suc zero) low = refl
none_of (suc (suc zero)) low = refl
none_of (suc (suc (suc i))) low = absurd (omega (arith, low))

late : LearnsTime (known_with (2 ∷ 3 ∷ 4 ∷ [])) (known_with (2 ∷ 3 ∷ 4 ∷ [])) 1 (1 ∷ 3 ∷ 0 ∷ [])
late = record { size = refl; learned = none_of; members = λ m i other. refl; senders = λ m i beyond. refl }
