-- One turn of each loop.
use Rattle.std.proofs.Common.{◌≡◌, ℕ, zero, suc, ◌+◌, ◌*◌, ◌-◌, ◌/◌, ◌%◌, ◌^◌, ◌<◌, ◌≤◌, false, cond, eqb, ltb, ◌&&◌, List, [], ◌∷◌, ◌++◌, length, take, drop, get_or, set, Result, Ok, Err, refl, sym, ap, append_assoc, ◌∙◌, arith, inl, inr, ◌⊎◌}
use Rattle.std.specs.Prelude.{bit_and, is_ok, OnOk}
use Rattle.std.proofs.lemmas.Bool.{lt-ltb, le-ltb, eq-eqb, ne_eqb, and_left, and_right, cases_eq}
use Rattle.std.proofs.lemmas.List.{drop_more, drop_all, take_more_set, length-set}
use Rattle.std.proofs.lemmas.Nat.{and_mask}
use Rattle.std.proofs.Math.Nat.{pow-suc, mul-le-mul_left}
use Rattle.std.proofs.Math.Numerals.{add-one}
use Rattle.cb_varint.specs.declared.fault.NumberFault.{NumberFault}
use Rattle.cb_varint.specs.declared.fault.NumberFault.TheVariants.{Short, NotMinimal, TooLarge}
use Rattle.cb_varint.specs.Reading.{behind, groups_of, groups_at, spelling}

-- what reading gives where k bytes worth v were passed over, and r is what the rest gives
abbrev pub ahead : ℕ → ℕ → Result (ℕ × ℕ) NumberFault → Result (ℕ × ℕ) NumberFault
ahead v k (Ok x) = Ok (v + 128 ^ k * x.0, k + x.1)
ahead v k (Err fault) = Err fault

pub power_more : (k : ℕ) → 128 ^ (k + 1) ≡ 128 ^ k * 128
power_more k = ap (λ n. 128 ^ n) (add-one k) ∙ pow-suc 128 k

pub ahead-behind : (v k b : ℕ) (r : Result (ℕ × ℕ) NumberFault) → ahead v k (behind b r) ≡ ahead (v + (b - 128) * 128 ^ k) (k + 1) r
ahead-behind v k b (Ok x) =
    let regroup : (p c n : ℕ) → v + p * (c + 128 * n) ≡ v + c * p + p * 128 * n = λ p c n. omega arith in
    let e : v + 128 ^ k * (b - 128 + 128 * x.0) ≡ v + (b - 128) * 128 ^ k + 128 ^ (k + 1) * x.0 = rw (power_more k) (regroup (128 ^ k) (b - 128) x.0) in
    let n : k + (x.1 + 1) ≡ k + 1 + x.1 = omega arith in
    rw (e, n) refl
ahead-behind v k b (Err fault) = refl

-- a group in its place fits
pub shifted : (b k : ℕ) → k ≤ 4 → (k ≡ 4 → b ≤ 15) → (bit_and b 127 * 2 ^ (7 * k)) % 2 ^ 32 ≡ b % 128 * 128 ^ k
shifted b zero small fifth = omega (arith, and_mask b 7)
shifted b (suc zero) small fifth = omega (arith, and_mask b 7)
shifted b (suc (suc zero)) small fifth = omega (arith, and_mask b 7)
shifted b (suc (suc (suc zero))) small fifth = omega (arith, and_mask b 7)
shifted b (suc (suc (suc (suc zero)))) small fifth = omega (arith, and_mask b 7, fifth refl)
shifted b (suc (suc (suc (suc (suc k))))) small fifth = absurd (omega arith)

-- ---- how many groups a number has

pub groups_one : (m n : ℕ) → n < 128 → length (groups_of m n) ≡ 1
groups_one zero n small = refl
groups_one (suc m) n small = rw (lt-ltb n 128 small) refl

pub groups_more : (m n j : ℕ) → 128 ≤ n → length (groups_of m (n / 128)) ≡ j → length (groups_of (suc m) n) ≡ suc j
groups_more m n j big e = rw (le-ltb n 128 big, e) refl

pub length_1 : (n : ℕ) → n < 128 → length (spelling n) ≡ 1
unfolding spelling
length_1 n h = groups_one 4 n h

pub length_2 : (n : ℕ) → 128 ≤ n → n < 16384 → length (spelling n) ≡ 2
unfolding spelling
length_2 n l h = groups_more 3 n 1 l (groups_one 3 (n / 128) (omega arith))

pub length_3 : (n : ℕ) → 16384 ≤ n → n < 2097152 → length (spelling n) ≡ 3
unfolding spelling
length_3 n l h = groups_more 3 n 2 (omega arith) (groups_more 2 (n / 128) 1 (omega arith) (groups_one 2 (n / 128 / 128) (omega arith)))

pub length_4 : (n : ℕ) → 2097152 ≤ n → n < 268435456 → length (spelling n) ≡ 4
unfolding spelling
length_4 n l h = groups_more 3 n 3 (omega arith) (groups_more 2 (n / 128) 2 (omega arith) (groups_more 1 (n / 128 / 128) 1 (omega arith) (groups_one 1 (n / 128 / 128 / 128) (omega arith))))

pub length_5 : (n : ℕ) → 268435456 ≤ n → n < 2 ^ 32 → length (spelling n) ≡ 5
unfolding spelling
length_5 n l h = groups_more 3 n 4 (omega arith) (groups_more 2 (n / 128) 3 (omega arith) (groups_more 1 (n / 128 / 128) 2 (omega arith) (groups_more 0 (n / 128 / 128 / 128) 1 (omega arith) refl)))

-- ---- the loop of the reading

not_too_large : (k b : ℕ) → (k ≡ 4 → b ≤ 15) → (eqb k 4 && ltb 15 b) ≡ false
not_too_large k b fifth =
    elim (cases_eq k 4) [
      | inl e ↦ and_right (eqb k 4) (ltb 15 b) (le-ltb 15 b (fifth e))
      | inr ne ↦ and_left (eqb k 4) (ltb 15 b) (ne_eqb k 4 ne)
    ]

below_more : (p v g q : ℕ) → v < p → g < 128 → q ≡ p * 128 → v + g * p < q
below_more p v g q small low e = omega (arith, e, mul-le-mul_left p (let h : g ≤ 127 = omega arith in h))

-- what the loop knows: k bytes worth v stand before the rest
pub record SoFar (bytes : List ℕ) (v k : ℕ) : Type 0 where
  pub few : k ≤ 4
  pub small : v < 128 ^ k
  pub so_far : ahead v k (groups_at k (drop k bytes)) ≡ groups_at 0 bytes

group_below : (v g b k : ℕ) → v < 128 ^ k → k ≤ 4 → (k ≡ 4 → b ≤ 15) → g ≡ b % 128 * 128 ^ k → v + g < 2 ^ 32
group_below v g b zero small few fifth e = omega arith
group_below v g b (suc zero) small few fifth e = omega arith
group_below v g b (suc (suc zero)) small few fifth e = omega arith
group_below v g b (suc (suc (suc zero))) small few fifth e = omega arith
group_below v g b (suc (suc (suc (suc zero)))) small few fifth e = omega (arith, fifth refl)
group_below v g b (suc (suc (suc (suc (suc k))))) small few fifth e = absurd (omega arith)

pub sum_fits : (v g b k : ℕ) → v < 128 ^ k → k ≤ 4 → (k ≡ 4 → b ≤ 15) → g ≡ bit_and b 127 → v + g * 2 ^ (7 * k) % 2 ^ 32 < 2 ^ 32
sum_fits v g b k small few fifth e = group_below v (g * 2 ^ (7 * k) % 2 ^ 32) b k small few fifth (ap (λ (x : ℕ). x * 2 ^ (7 * k) % 2 ^ 32) e ∙ shifted b k few fifth)

pub closes : (bytes : List ℕ) (v b k : ℕ) → SoFar bytes v k → k < length bytes → get_or bytes k 0 ≡ b → (k ≡ 4 → b ≤ 15) → b < 128 → (b ≡ 0 → k ≡ 0) → Ok (v + b % 128 * 128 ^ k, k + 1) ≡ groups_at 0 bytes
closes bytes v b k s lt at fifth ends nonzero =
    let rest : drop k bytes ≡ b ∷ drop (k + 1) bytes = drop_more bytes k 0 lt ∙ ap (λ (x : ℕ). x ∷ drop (k + 1) bytes) at in
    let one : (eqb k 4 && ltb 15 b) ≡ false = not_too_large k b fifth in
    let two : (eqb b 0 && ltb 0 k) ≡ false = elim (cases_eq b 0) [
      | inl z ↦ and_right (eqb b 0) (ltb 0 k) (le-ltb 0 k (omega (arith, nonzero z)))
      | inr nz ↦ and_left (eqb b 0) (ltb 0 k) (ne_eqb b 0 nz)
    ] in
    let low : b % 128 ≡ b = omega arith in
    let e : v + 128 ^ k * b ≡ v + b % 128 * 128 ^ k = rw low (omega arith) in
    sym (sym s.so_far ∙ rw (rest, one, lt-ltb b 128 ends, two, e) refl)

pub goes_on : (bytes : List ℕ) (v b k : ℕ) → SoFar bytes v k → k < length bytes → get_or bytes k 0 ≡ b → (k ≡ 4 → b ≤ 15) → 128 ≤ b → b < 256 → SoFar bytes (v + b % 128 * 128 ^ k) (k + 1)
goes_on bytes v b k s lt at fifth top byte =
    let rest : drop k bytes ≡ b ∷ drop (k + 1) bytes = drop_more bytes k 0 lt ∙ ap (λ (x : ℕ). x ∷ drop (k + 1) bytes) at in
    let one : (eqb k 4 && ltb 15 b) ≡ false = not_too_large k b fifth in
    let low : b % 128 ≡ b - 128 = omega arith in
    let here : groups_at k (drop k bytes) ≡ behind b (groups_at (k + 1) (drop (k + 1) bytes)) = rw (rest, one, le-ltb b 128 top) refl in
    let p = 128 ^ k in
    record {
      few = elim (cases_eq k 4) [ inl e ↦ absurd (omega (arith, fifth e)) | inr ne ↦ omega (arith, s.few, ne) ];
      small = below_more (128 ^ k) v (b % 128) (128 ^ (k + 1)) s.small (omega arith) (power_more k);
      so_far = rw low (sym (ahead-behind v k b (groups_at (k + 1) (drop (k + 1) bytes))) ∙ ap (ahead v k) (sym here) ∙ s.so_far);
    }

pub is_too_large : (bytes : List ℕ) (v b k : ℕ) → SoFar bytes v k → k < length bytes → get_or bytes k 0 ≡ b → k ≡ 4 → 15 < b → Err TooLarge ≡ groups_at 0 bytes
is_too_large bytes v b k s lt at e big =
    let rest : drop k bytes ≡ b ∷ drop (k + 1) bytes = drop_more bytes k 0 lt ∙ ap (λ (x : ℕ). x ∷ drop (k + 1) bytes) at in
    sym (sym s.so_far ∙ rw (rest, eq-eqb k 4 e, lt-ltb 15 b big) refl)

pub is_not_minimal : (bytes : List ℕ) (v b k : ℕ) → SoFar bytes v k → k < length bytes → get_or bytes k 0 ≡ b → b ≡ 0 → 0 < k → Err NotMinimal ≡ groups_at 0 bytes
is_not_minimal bytes v b k s lt at z pos =
    let rest : drop k bytes ≡ 0 ∷ drop (k + 1) bytes = drop_more bytes k 0 lt ∙ ap (λ (x : ℕ). x ∷ drop (k + 1) bytes) (at ∙ z) in
    let one : (eqb k 4 && ltb 15 0) ≡ false = and_right (eqb k 4) (ltb 15 0) refl in
    sym (sym s.so_far ∙ rw (rest, one, lt-ltb 0 k pos) refl)

pub is_short : (bytes : List ℕ) (v k : ℕ) → SoFar bytes v k → length bytes ≤ k → Err Short ≡ groups_at 0 bytes
is_short bytes v k s le = sym (sym s.so_far ∙ rw (drop_all k bytes le) refl)

pub at_most_fifteen : (b k : ℕ) → ((k ≡ 4) × (b ≤ 15)) ⊎ (k ≡ 4 → ⊥) → k ≡ 4 → b ≤ 15
at_most_fifteen b k (inl h) e = h.1
at_most_fifteen b k (inr ne) e = absurd (ne e)

pub alone_if_zero : (b k : ℕ) → ((b ≡ 0) × (k ≤ 0)) ⊎ (b ≡ 0 → ⊥) → b ≡ 0 → k ≡ 0
alone_if_zero b k (inl h) e = omega (arith, h.1)
alone_if_zero b k (inr ne) e = absurd (ne e)

-- the value so far with the group of this byte, as the code adds it
pub group_in_place : (v g b k : ℕ) → k ≤ 4 → (k ≡ 4 → b ≤ 15) → g ≡ bit_and b 127 → v + b % 128 * 128 ^ k ≡ v + g * 2 ^ (7 * k) % 2 ^ 32
group_in_place v g b k few fifth e = ap (λ (x : ℕ). v + x) (sym (ap (λ (x : ℕ). x * 2 ^ (7 * k) % 2 ^ 32) e ∙ shifted b k few fifth))

at_the_start : (r : Result (ℕ × ℕ) NumberFault) → ahead 0 0 r ≡ r
at_the_start (Ok x) =
    let e : 0 + 128 ^ 0 * x.0 ≡ x.0 = omega arith in
    let n : 0 + x.1 ≡ x.1 = omega arith in
    rw (e, n) refl
at_the_start (Err fault) = refl

pub starts : (bytes : List ℕ) → SoFar bytes 0 0
starts bytes = record { few = omega arith; small = omega arith; so_far = at_the_start (groups_at 0 bytes) }

-- ---- the loop of the writing

-- what the loop knows: the first count bytes, and then the groups of the rest, are the spelling
pub record Written (text : List ℕ) (v count rest : ℕ) : Type 0 where
  pub room : length text ≡ 5
  pub few : count ≤ 4
  pub small : rest < 16 * 128 ^ (4 - count)
  pub so_far : take count text ++ groups_of (4 - count) rest ≡ spelling v

pub nothing_written : (text : List ℕ) (v : ℕ) → length text ≡ 5 → v < 2 ^ 32 → Written text v 0 v
unfolding spelling
nothing_written text v room small = record { room = room; few = omega arith; small = omega arith; so_far = refl }

one_less : (count rest : ℕ) → count ≤ 4 → rest < 16 * 128 ^ (4 - count) → 128 ≤ rest → (m : ℕ) × (4 - count ≡ suc m) × (4 - (count + 1) ≡ m) × (count + 1 ≤ 4)
one_less zero rest few small big = (3, refl, refl, omega arith)
one_less (suc zero) rest few small big = (2, refl, refl, omega arith)
one_less (suc (suc zero)) rest few small big = (1, refl, refl, omega arith)
one_less (suc (suc (suc zero))) rest few small big = (0, refl, refl, omega arith)
one_less (suc (suc (suc (suc zero)))) rest few small big = absurd (omega arith)
one_less (suc (suc (suc (suc (suc count))))) rest few small big = absurd (omega arith)

pub group_written : (text : List ℕ) (v count rest : ℕ) → Written text v count rest → 128 ≤ rest → Written (set text count (rest % 128 + 128)) v (count + 1) (rest / 128)
group_written text v count rest w big =
    let lt : count < length text = omega (arith, w.room, w.few) in
    let m = one_less count rest w.few w.small big in
    let group = rest % 128 + 128 in
    let front : take (count + 1) (set text count group) ≡ take count text ++ group ∷ [] = take_more_set text count group lt in
    let here : groups_of (4 - count) rest ≡ group ∷ groups_of m.0 (rest / 128) = rw (m.1, le-ltb rest 128 big) refl in
    let bound : rest < 16 * 128 ^ (suc m.0) = rw m.1 at w.small in
    record {
      room = length-set text count group ∙ w.room;
      few = m.3;
      small = rw m.2 (omega (arith, bound, pow-suc 128 m.0));
      so_far = rw (m.2, front) (append_assoc (take count text) (group ∷ []) (groups_of m.0 (rest / 128)) ∙ ap (λ (t : List ℕ). take count text ++ t) (sym here) ∙ w.so_far);
    }

last_group : (m rest : ℕ) → rest < 128 → groups_of m rest ≡ rest ∷ []
last_group zero rest small = refl
last_group (suc m) rest small = rw (lt-ltb rest 128 small) refl

pub last_written : (text : List ℕ) (v count rest : ℕ) → Written text v count rest → rest < 128 → take (count + 1) (set text count rest) ≡ spelling v
last_written text v count rest w small =
    let lt : count < length text = omega (arith, w.room, w.few) in
    take_more_set text count rest lt ∙ ap (λ (t : List ℕ). take count text ++ t) (sym (last_group (4 - count) rest small)) ∙ w.so_far

pub written_on_ok : {E : Type 0} (r : Result (Unit {0}) E) (old new text spelled : List ℕ) → new ≡ cond (is_ok r) (old ++ text) old → text ≡ spelled → OnOk r (new ≡ old ++ spelled)
written_on_ok (Ok x) old new text spelled e t = e ∙ ap (λ (s : List ℕ). old ++ s) t
written_on_ok (Err x) old new text spelled e t = tt
