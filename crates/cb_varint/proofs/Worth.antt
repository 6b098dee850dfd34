-- What bytes are worth, from the first byte on.
use Rattle.std.proofs.Common.{◌≡◌, ◌≢◌, ℕ, ◌+◌, ◌*◌, ◌-◌, ◌%◌, ◌^◌, ◌<◌, List, [], ◌∷◌, ◌++◌, refl, ap, ◌∙◌, arith}
use Rattle.std.specs.List.{enumerate_from, sum_by}
use Rattle.std.proofs.lemmas.List.Sums.{sum_by-cons}
use Rattle.std.proofs.Math.Nat.{pow-suc}
use Rattle.std.proofs.Math.Numerals.{add-one}
use Rattle.cb_varint.specs.Spelling.{share, value_of, HasTopBit}

abbrev worth_from : ℕ → List ℕ → ℕ
worth_from k text = sum_by share (enumerate_from k text)

worth_from-cons : (k b : ℕ) (bytes : List ℕ) → worth_from k (b ∷ bytes) ≡ b % 128 * 128 ^ k + worth_from (k + 1) bytes
worth_from-cons k b bytes = sum_by-cons share (k, b) (enumerate_from (k + 1) bytes)

times_more : (x k : ℕ) → x * 128 ^ (k + 1) ≡ 128 * (x * 128 ^ k)
times_more x k =
    let e : 128 ^ (k + 1) ≡ 128 ^ k * 128 = ap (λ n. 128 ^ n) (add-one k) ∙ pow-suc 128 k in
    rw e (omega arith)

worth_from-more : (k : ℕ) (bytes : List ℕ) → worth_from (k + 1) bytes ≡ 128 * worth_from k bytes
worth_from-more k [] = refl
worth_from-more k (b ∷ bytes) =
    omega (arith, worth_from-cons (k + 1) b bytes, worth_from-cons k b bytes, worth_from-more (k + 1) bytes, times_more (b % 128) k)

-- the first byte is the low group
pub value_of-cons : (b : ℕ) (bytes : List ℕ) → value_of (b ∷ bytes) ≡ b % 128 + 128 * value_of bytes
value_of-cons b bytes = omega (arith, worth_from-cons 0 b bytes, worth_from-more 0 bytes)

pub value_of-top : (b : ℕ) (bytes : List ℕ) → HasTopBit b → value_of (b ∷ bytes) ≡ b - 128 + 128 * value_of bytes
value_of-top b bytes h = omega (arith, value_of-cons b bytes)

pub value_of-last : (b : ℕ) → b < 128 → value_of (b ∷ []) ≡ b
value_of-last b h = omega (arith, value_of-cons b [])

-- a last byte that is not 0 makes the whole not 0
pub value_of-pos : (front : List ℕ) (last : ℕ) → last < 128 → last ≢ 0 → 0 < value_of (front ++ last ∷ [])
value_of-pos [] last h ne = omega (arith, value_of-last last h)
value_of-pos (b ∷ front) last h ne = omega (arith, value_of-cons b (front ++ last ∷ []), value_of-pos front last h ne)
