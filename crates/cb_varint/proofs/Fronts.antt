-- Reading finds the spelling at the front of bytes, and else the fault.
use Rattle.std.proofs.Common.{◌≡◌, ◌≢◌, ℕ, zero, suc, inl, inr, ◌+◌, ◌*◌, ◌-◌, ◌^◌, ◌<◌, ◌≤◌, true, false, cond, eqb, ltb, ◌&&◌, List, [], ◌∷◌, ◌++◌, length, get_or, take, Result, Ok, Err, refl, sym, ap, subst, ◌∙◌, arith, append_assoc, zero-add}
use Rattle.std.specs.List.{AllByRecursion}
use Rattle.std.specs.Prelude.{IfOk}
use Rattle.std.proofs.lemmas.Bool.{eqb-true, eqb-false, eq-eqb, ltb-true, ltb-false, le-ltb, lt-ltb, ne_eqb, cond_both, and_parts, and_cases, and_left, and_right, and_from, cases_eq, cases_lt}
use Rattle.std.proofs.lemmas.List.{take_at, length-append, append-nil}
use Rattle.std.proofs.Math.Nat.{pow-suc}
use Rattle.cb_varint.specs.declared.fault.NumberFault.{NumberFault}
use Rattle.cb_varint.specs.declared.fault.NumberFault.TheVariants.{Short, NotMinimal, TooLarge}
use Rattle.cb_varint.specs.Spelling.{value_of, HasTopBit, Spells, IsFault}
use Rattle.cb_varint.specs.Reading.{behind, groups_at, number_at}
use Rattle.cb_varint.proofs.Worth.{value_of-top, value_of-last}

abbrev pub IsBytes : List ℕ → Type 0
IsBytes bytes = (i : ℕ) → get_or bytes i 0 < 256

IsBytes-rest : (b : ℕ) (bytes : List ℕ) → IsBytes (b ∷ bytes) → IsBytes bytes
IsBytes-rest b bytes h i = h (suc i)

-- a number at the front of bytes that k others stand before, where m more than this one may follow
pub record Found (m k : ℕ) (bytes : List ℕ) (x : ℕ × ℕ) : Type 0 where
  pub front : List ℕ
  pub last : ℕ
  pub rest : List ℕ
  pub parts : bytes ≡ front ++ last ∷ rest
  pub more : AllByRecursion HasTopBit front
  pub ends : last < 128
  pub at_most_five : length front + k ≤ 4
  pub shortest : 0 < length front + k → last ≢ 0
  pub worth : x.0 ≡ value_of (front ++ last ∷ [])
  pub count : x.1 ≡ length front + 1
  pub bound : x.0 < 16 * 128 ^ m

-- a fault of bytes that k others stand before
abbrev FaultAt : ℕ → NumberFault → List ℕ → Type 0
FaultAt k TooLarge bytes = (front rest : List ℕ) × (fifth : ℕ) × (bytes ≡ front ++ fifth ∷ rest)
    × (length front + k ≡ 4) × AllByRecursion HasTopBit front × (15 < fifth)
FaultAt k Short bytes = (length bytes + k ≤ 4) × AllByRecursion HasTopBit bytes
FaultAt k NotMinimal bytes = (front rest : List ℕ) × (bytes ≡ front ++ 0 ∷ rest)
    × (0 < length front + k) × (length front + k ≤ 4) × AllByRecursion HasTopBit front

abbrev Outcome : ℕ → ℕ → List ℕ → Result (ℕ × ℕ) NumberFault → Type 0
Outcome m k bytes (Ok x) = Found m k bytes x
Outcome m k bytes (Err fault) = FaultAt k fault bytes

behind_outcome : (m k b : ℕ) (bytes : List ℕ) (r : Result (ℕ × ℕ) NumberFault) → HasTopBit b → Outcome m (k + 1) bytes r → Outcome (suc m) k (b ∷ bytes) (behind b r)
behind_outcome m k b bytes (Ok x) top f = record {
  front = b ∷ f.front;
  last = f.last;
  rest = f.rest;
  parts = ap (λ (t : List ℕ). b ∷ t) f.parts;
  more = (top, f.more);
  ends = f.ends;
  at_most_five = omega (arith, f.at_most_five);
  shortest = λ _. f.shortest (omega arith);
  worth = omega (arith, f.worth, value_of-top b (f.front ++ f.last ∷ []) top);
  count = omega (arith, f.count);
  bound = let e = pow-suc 128 m in omega (arith, f.bound, e);
}
behind_outcome m k b bytes (Err TooLarge) top f = (b ∷ f.0, f.1, f.2, ap (λ (t : List ℕ). b ∷ t) f.3, omega (arith, f.4), (top, f.5), f.6)
behind_outcome m k b bytes (Err Short) top f = (omega (arith, f.0), (top, f.1))
behind_outcome m k b bytes (Err NotMinimal) top f = (b ∷ f.0, f.1, ap (λ (t : List ℕ). b ∷ t) f.2, omega arith, omega (arith, f.4), (top, f.5))

pub power_pos : (m : ℕ) → 0 < 128 ^ m
power_pos zero = omega arith
power_pos (suc m) = omega (arith, pow-suc 128 m, power_pos m)

-- what a closing byte may be worth where m more bytes might have followed
closing_bound : (m k b : ℕ) → m + k ≡ 4 → (k ≡ 4 → b ≤ 15) → b < 128 → b < 16 * 128 ^ m
closing_bound zero k b total fifth ends = omega (arith, fifth (omega arith))
closing_bound (suc m) k b total fifth ends = omega (arith, pow-suc 128 m, power_pos m)

closing_nonzero : (k b : ℕ) → (eqb b 0 && ltb 0 k) ≡ false → 0 < k → b ≢ 0
closing_nonzero k b f pos e =
    elim (and_cases (eqb b 0) (ltb 0 k) f) [
      | inl h ↦ eqb-false b 0 h e
      | inr h ↦ absurd (omega (arith, ltb-false 0 k h))
    ]

-- a byte that closes a number
closing_outcome : (m k b : ℕ) (bytes : List ℕ) → m + k ≡ 4 → (k ≡ 4 → b ≤ 15) → b < 128 → Outcome m k (b ∷ bytes) (cond (eqb b 0 && ltb 0 k) (Err NotMinimal) (Ok (b, 1)))
closing_outcome m k b bytes total fifth ends = cond_both (eqb b 0 && ltb 0 k) (Err NotMinimal) (Ok (b, 1)) (Outcome m k (b ∷ bytes)) (λ t.
    let p = and_parts (eqb b 0) (ltb 0 k) t in
    let b-is : b ≡ 0 = eqb-true b 0 p.0 in
    let k-pos : 0 < k = ltb-true 0 k p.1 in
    ([], bytes, ap (λ (x : ℕ). x ∷ bytes) b-is, omega arith, omega arith, tt))
    (λ f. record {
      front = [];
      last = b;
      rest = bytes;
      parts = refl;
      more = tt;
      ends = ends;
      at_most_five = omega arith;
      shortest = λ pos. closing_nonzero k b f (omega arith);
      worth = sym (value_of-last b ends);
      count = refl;
      bound = closing_bound m k b total fifth ends;
    })

not_fifth : (k b : ℕ) → (eqb k 4 && ltb 15 b) ≡ false → k ≡ 4 → b ≤ 15
not_fifth k b f e =
    elim (and_cases (eqb k 4) (ltb 15 b) f) [
      | inl h ↦ absurd (eqb-false k 4 h e)
      | inr h ↦ ltb-false 15 b h
    ]

-- a byte that asks for another one is not the fifth
going_on : (m k b : ℕ) → m + k ≡ 4 → (k ≡ 4 → b ≤ 15) → 128 ≤ b → (l : ℕ) × (m ≡ suc l) × (l + (k + 1) ≡ 4)
going_on zero k b total fifth top = absurd (omega (arith, fifth (omega arith)))
going_on (suc m) k b total fifth top = (m, refl, omega arith)

-- what reading gives is at the front of the bytes, or wrong with them
pub outcome : (m k : ℕ) (bytes : List ℕ) → m + k ≡ 4 → IsBytes bytes → Outcome m k bytes (groups_at k bytes)
outcome m k [] total fits = (omega arith, tt)
outcome m k (b ∷ bytes) total fits =
    cond_both (eqb k 4 && ltb 15 b) (Err TooLarge) (cond (ltb b 128) (cond (eqb b 0 && ltb 0 k) (Err NotMinimal) (Ok (b, 1))) (behind b (groups_at (k + 1) bytes))) (Outcome m k (b ∷ bytes))
    (λ t.
    let p = and_parts (eqb k 4) (ltb 15 b) t in
    let k-is = eqb-true k 4 p.0 in
    ([], bytes, b, refl, omega (arith, k-is), tt, ltb-true 15 b p.1))
    (λ f.
    cond_both (ltb b 128) (cond (eqb b 0 && ltb 0 k) (Err NotMinimal) (Ok (b, 1))) (behind b (groups_at (k + 1) bytes)) (Outcome m k (b ∷ bytes))
    (λ closes. closing_outcome m k b bytes total (not_fifth k b f) (ltb-true b 128 closes))
    (λ goes.
    let top : 128 ≤ b = ltb-false b 128 goes in
    let l = going_on m k b total (not_fifth k b f) top in
    subst (λ (n : ℕ). Outcome n k (b ∷ bytes) (behind b (groups_at (k + 1) bytes))) (sym l.1)
    (behind_outcome l.0 k b bytes (groups_at (k + 1) bytes) (top, fits 0) (outcome l.0 (k + 1) bytes l.2 (IsBytes-rest b bytes fits)))))

-- ---- what stands at the front is read

abbrev behind_all : List ℕ → Result (ℕ × ℕ) NumberFault → Result (ℕ × ℕ) NumberFault
behind_all [] r = r
behind_all (b ∷ front) r = behind b (behind_all front r)

-- bytes with their top bit set, at most four of them, are passed over
pass_over : (k : ℕ) (front rest : List ℕ) → AllByRecursion HasTopBit front → length front + k ≤ 4 → groups_at k (front ++ rest) ≡ behind_all front (groups_at (length front + k) rest)
pass_over k [] rest more few = ap (λ (n : ℕ). groups_at n rest) (sym (zero-add k))
pass_over k (b ∷ front) rest more few =
    let one : (eqb k 4 && ltb 15 b) ≡ false = and_left (eqb k 4) (ltb 15 b) (ne_eqb k 4 (λ e. omega (arith, e))) in
    let two : ltb b 128 ≡ false = le-ltb b 128 more.0.0 in
    let place : length front + (k + 1) ≡ suc (length front) + k = omega arith in
    rw (one, two, pass_over (k + 1) front rest more.1 (omega arith), place) refl

behind_all-err : (front : List ℕ) (fault : NumberFault) → behind_all front (Err fault) ≡ Err fault
behind_all-err [] fault = refl
behind_all-err (b ∷ front) fault = rw (behind_all-err front fault) refl

behind_all-ok : (front : List ℕ) (last : ℕ) → AllByRecursion HasTopBit front → last < 128 → behind_all front (Ok (last, 1)) ≡ Ok (value_of (front ++ last ∷ []), length front + 1)
behind_all-ok [] last more ends = ap (λ (v : ℕ). Ok (v, 1)) (sym (value_of-last last ends))
behind_all-ok (b ∷ front) last more ends =
    let e : b - 128 + 128 * value_of (front ++ last ∷ []) ≡ value_of (b ∷ front ++ last ∷ []) = sym (value_of-top b (front ++ last ∷ []) more.0) in
    let n : length front + 1 + 1 ≡ suc (length front) + 1 = omega arith in
    rw (behind_all-ok front last more.1 ends, e, n) refl

-- the fifth byte of a number below 2 ^ 32
fifth_bound : (front : List ℕ) (last : ℕ) (m : ℕ) → AllByRecursion HasTopBit front → last < 128 → value_of (front ++ last ∷ []) < 16 * 128 ^ m → length front ≡ m → last ≤ 15
fifth_bound [] last zero more ends small len = omega (arith, value_of-last last ends)
fifth_bound [] last (suc m) more ends small len = absurd (omega arith)
fifth_bound (b ∷ front) last zero more ends small len = absurd (omega arith)
fifth_bound (b ∷ front) last (suc m) more ends small len =
    fifth_bound front last m more.1 ends (omega (arith, pow-suc 128 m, value_of-top b (front ++ last ∷ []) more.0)) (omega arith)

pub text_is_read : (front rest : List ℕ) (last : ℕ) → AllByRecursion HasTopBit front → last < 128 → length front ≤ 4 → (0 < length front → last ≢ 0) → value_of (front ++ last ∷ []) < 2 ^ 32
    → groups_at 0 (front ++ last ∷ rest) ≡ Ok (value_of (front ++ last ∷ []), length front + 1)
text_is_read front rest last more ends few shortest small =
    let one : (eqb (length front + 0) 4 && ltb 15 last) ≡ false = elim (cases_eq (length front) 4) [
      | inl e ↦ and_right (eqb (length front + 0) 4) (ltb 15 last) (le-ltb 15 last (fifth_bound front last 4 more ends small e))
      | inr ne ↦ and_left (eqb (length front + 0) 4) (ltb 15 last) (ne_eqb (length front + 0) 4 (λ e. ne (omega (arith, e))))
    ] in
    let two : ltb last 128 ≡ true = lt-ltb last 128 ends in
    let three : (eqb last 0 && ltb 0 (length front + 0)) ≡ false = elim (cases_lt 0 (length front)) [
      | inl pos ↦ and_left (eqb last 0) (ltb 0 (length front + 0)) (ne_eqb last 0 (shortest pos))
      | inr none ↦ and_right (eqb last 0) (ltb 0 (length front + 0)) (le-ltb 0 (length front + 0) (omega arith))
    ] in
    pass_over 0 front (last ∷ rest) more (omega arith) ∙ rw (one, two, three) (behind_all-ok front last more ends)

-- ---- what is wrong with the front is found

pub fault_is_found : (fault : NumberFault) (bytes : List ℕ) → IsFault fault bytes → groups_at 0 bytes ≡ Err fault
fault_is_found TooLarge bytes f =
    let k : length f.0 + 0 ≡ 4 = omega (arith, f.4) in
    let one : (eqb (length f.0 + 0) 4 && ltb 15 f.2) ≡ true = and_from (eqb (length f.0 + 0) 4) (ltb 15 f.2) (eq-eqb _ 4 k) (lt-ltb 15 f.2 f.6) in
    ap (groups_at 0) f.3 ∙ pass_over 0 f.0 (f.2 ∷ f.1) f.5 (omega (arith, f.4)) ∙ rw one (behind_all-err f.0 TooLarge)
fault_is_found Short bytes f =
    ap (groups_at 0) (sym (append-nil bytes)) ∙ pass_over 0 bytes [] f.1 (omega (arith, f.0)) ∙ behind_all-err bytes Short
fault_is_found NotMinimal bytes f =
    let one : (eqb (length f.0 + 0) 4 && ltb 15 0) ≡ false = and_right (eqb (length f.0 + 0) 4) (ltb 15 0) refl in
    let two : (eqb 0 0 && ltb 0 (length f.0 + 0)) ≡ true = and_from (eqb 0 0) (ltb 0 (length f.0 + 0)) refl (lt-ltb 0 _ (omega (arith, f.3))) in
    ap (groups_at 0) f.2 ∙ pass_over 0 f.0 (0 ∷ f.1) f.5 (omega (arith, f.4)) ∙ rw (one, two) (behind_all-err f.0 NotMinimal)

-- ---- the same for the whole reading

pub is_spelled : (bytes : List ℕ) (x : ℕ × ℕ) → Found 4 0 bytes x → (x.1 ≤ length bytes) × Spells (take x.1 bytes) x.0
is_spelled bytes x f =
    let regrouped : bytes ≡ (f.front ++ f.last ∷ []) ++ f.rest = f.parts ∙ sym (append_assoc f.front (f.last ∷ []) f.rest) in
    let len : length (f.front ++ f.last ∷ []) ≡ x.1 = omega (arith, length-append f.front (f.last ∷ []), f.count) in
    let text : take x.1 bytes ≡ f.front ++ f.last ∷ [] = ap (take x.1) regrouped ∙ take_at (f.front ++ f.last ∷ []) f.rest x.1 len in (
      omega (arith, ap length regrouped, length-append (f.front ++ f.last ∷ []) f.rest, len),
      record {
        front = f.front;
        last = f.last;
        parts = text;
        more = f.more;
        ends = f.ends;
        at_most_five = omega (arith, f.at_most_five);
        shortest = λ pos. f.shortest (omega arith);
        worth = f.worth ∙ ap value_of (sym text);
        fits = omega (arith, f.bound);
      },
    )

pub number_is_read : (text rest : List ℕ) (n : ℕ) → Spells text n → number_at (text ++ rest) ≡ Ok (n, length text)
unfolding number_at
number_is_read text rest n s =
    let regrouped : text ++ rest ≡ s.front ++ s.last ∷ rest = ap (λ (t : List ℕ). t ++ rest) s.parts ∙ append_assoc s.front (s.last ∷ []) rest in
    let n-is : n ≡ value_of (s.front ++ s.last ∷ []) = s.worth ∙ ap value_of s.parts in
    let len : length text ≡ length s.front + 1 = omega (arith, ap length s.parts, length-append s.front (s.last ∷ [])) in
    ap (groups_at 0) regrouped ∙ text_is_read s.front rest s.last s.more s.ends s.at_most_five s.shortest (omega (arith, n-is, s.fits)) ∙ rw (n-is, len) refl

pub whole_outcome : (bytes : List ℕ) → IsBytes bytes → Outcome 4 0 bytes (number_at bytes)
unfolding number_at
whole_outcome bytes fits = outcome 4 0 bytes refl fits

to_fault : (fault : NumberFault) (bytes : List ℕ) → FaultAt 0 fault bytes → IsFault fault bytes
to_fault TooLarge bytes f = (f.0, f.1, f.2, f.3, omega (arith, f.4), f.5, f.6)
to_fault Short bytes f = (omega (arith, f.0), f.1)
to_fault NotMinimal bytes f = (f.0, f.1, f.2, omega (arith, f.3), omega (arith, f.4), f.5)

at_ok : (bytes : List ℕ) (r : Result (ℕ × ℕ) NumberFault) (x : ℕ × ℕ) → r ≡ Ok x → Outcome 4 0 bytes r → Found 4 0 bytes x
at_ok bytes r x e o = subst (Outcome 4 0 bytes) e o

at_err : (bytes : List ℕ) (r : Result (ℕ × ℕ) NumberFault) (fault : NumberFault) → r ≡ Err fault → Outcome 4 0 bytes r → FaultAt 0 fault bytes
at_err bytes r fault e o = subst (Outcome 4 0 bytes) e o

-- a number that was read is spelled at the front
pub read_is_spelled : (bytes : List ℕ) (x : ℕ × ℕ) → IsBytes bytes → number_at bytes ≡ Ok x → (x.1 ≤ length bytes) × Spells (take x.1 bytes) x.0
read_is_spelled bytes x fits e = is_spelled bytes x (at_ok bytes (number_at bytes) x e (whole_outcome bytes fits))

-- the fault that was answered is there, and the fault that is there is answered
pub fault_is_there : (bytes : List ℕ) (fault : NumberFault) → IsBytes bytes → number_at bytes ≡ Err fault → IsFault fault bytes
fault_is_there bytes fault fits e = to_fault fault bytes (at_err bytes (number_at bytes) fault e (whole_outcome bytes fits))

pub fault_is_answered : (bytes : List ℕ) (fault : NumberFault) → IsFault fault bytes → number_at bytes ≡ Err fault
unfolding number_at
fault_is_answered bytes fault f = fault_is_found fault bytes f

pub found_within : (bytes : List ℕ) (r : Result (ℕ × ℕ) NumberFault) → IsBytes bytes → number_at bytes ≡ r → IfOk r (λ x. x.1 ≤ length bytes)
found_within bytes (Ok x) fits e = (read_is_spelled bytes x fits e).0
found_within bytes (Err fault) fits e = tt

pub found_spelled : (bytes : List ℕ) (r : Result (ℕ × ℕ) NumberFault) → IsBytes bytes → number_at bytes ≡ r → IfOk r (λ x. Spells (take x.1 bytes) x.0)
found_spelled bytes (Ok x) fits e = (read_is_spelled bytes x fits e).1
found_spelled bytes (Err fault) fits e = tt
