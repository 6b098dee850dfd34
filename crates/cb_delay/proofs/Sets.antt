-- Sets of members as the bits of a number.
use Rattle.std.proofs.Common.{◌≡◌, ◌≢◌, ℕ, ◌^◌, ◌*◌, ◌/◌, ◌-◌, ◌%◌, ◌<◌, ◌≤◌, w64, arith, sym, ◌∙◌, ap, inl, inr, bit_and, bit_or}
use Rattle.std.specs.Int.{bit_at, bit_not}
use Rattle.std.proofs.lemmas.Bool.{cases_lt}
use Rattle.std.proofs.lemmas.Nat.{and_le_l}
use Rattle.std.proofs.lemmas.Nat.Bits.{bit_at_clear_same, bit_at_clear_other, bit_at_above, bit_at_or, ones_shr, bit_at_ones, bit_at_ones_above}

abbrev cleared : ℕ → ℕ → ℕ
cleared set i = bit_and set (bit_not w64 (1 * 2 ^ i % 2 ^ 64))

pub cleared-same : (set i : ℕ) → i < 64 → bit_at (cleared set i) i ≡ 0
cleared-same set i within = bit_at_clear_same w64 set i within

pub cleared-other : (set i : ℕ) → i < 64 → set < 2 ^ 64 → (j : ℕ) → j ≢ i → bit_at (cleared set i) j ≡ bit_at set j
cleared-other set i within fits j differ =
    elim (cases_lt j 64) as (λ _. bit_at (cleared set i) j ≡ bit_at set j) [
      | inl below ↦ bit_at_clear_other w64 set i within j below differ
      | inr above ↦
          let less : cleared set i ≤ set = and_le_l set (bit_not w64 (1 * 2 ^ i % 2 ^ 64)) in
          bit_at_above (cleared set i) 64 j (omega (arith, less, fits)) above ∙ sym (bit_at_above set 64 j fits above)
    ]

pub cleared-less : (set i : ℕ) → i < 64 → bit_at set i ≡ 1 → cleared set i < set
cleared-less set i within member =
    let less : cleared set i ≤ set = and_le_l set (bit_not w64 (1 * 2 ^ i % 2 ^ 64)) in
    elim (cases_lt (cleared set i) set) as (λ _. cleared set i < set) [
      | inl below ↦ below
      | inr above ↦
          let same : cleared set i ≡ set = omega (arith, less, above) in
          let bits : bit_at (cleared set i) i ≡ bit_at set i = ap (λ n. bit_at n i) same in
          absurd (omega (arith, bits, member, cleared-same set i within))
    ]

pub either-first : (a b i : ℕ) → bit_at (bit_or a b) i ≡ 0 → bit_at a i ≡ 0
either-first a b i none = let both = bit_at_or a b i in omega (arith, both, none)

pub either-second : (a b i : ℕ) → bit_at (bit_or a b) i ≡ 0 → bit_at b i ≡ 0
either-second a b i none = let both = bit_at_or a b i in omega (arith, both, none)

pub either-only : (a b i : ℕ) → bit_at a i ≡ 0 → bit_at b i ≡ 0 → bit_at (bit_or a b) i ≡ 0
either-only a b i first second = let both = bit_at_or a b i in omega (arith, both, first, second)

module _ (size : ℕ) (most : size ≤ 64) where
  ones : (2 ^ 64 - 1) / 2 ^ (64 - size) ≡ 2 ^ size - 1
  ones =
      let back : 64 - (64 - size) ≡ size = omega (arith, most) in
      ones_shr 64 (64 - size) (omega arith) ∙ ap (λ n. 2 ^ n - 1) back

  pub all-members : (i : ℕ) → i < size → bit_at ((2 ^ 64 - 1) / 2 ^ (64 - size)) i ≡ 1
  all-members i below = ap (λ n. bit_at n i) ones ∙ bit_at_ones size i below

  pub all-only : (i : ℕ) → size ≤ i → bit_at ((2 ^ 64 - 1) / 2 ^ (64 - size)) i ≡ 0
  all-only i above = ap (λ n. bit_at n i) ones ∙ bit_at_ones_above size i above

-- who is in a set of members is a member
pub is_member : (size set i : ℕ) → ((j : ℕ) → size ≤ j → bit_at set j ≡ 0) → bit_at set i ≡ 1 → i < size
is_member size set i only one =
    elim (cases_lt i size) as (λ _. i < size) [
      | inl below ↦ below
      | inr above ↦ absurd (omega (arith, only i above, one))
    ]
