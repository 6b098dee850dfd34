-- The one spelling of each number.
use Rattle.std.proofs.Common.{◌≡◌, ◌≢◌, ℕ, zero, suc, ◌+◌, ◌*◌, ◌-◌, ◌/◌, ◌%◌, ◌^◌, ◌<◌, ◌≤◌, false, ltb, List, [], ◌∷◌, ◌++◌, length, Result, Ok, Err, refl, sym, ap, subst, ◌∙◌, arith, inl, inr}
use Rattle.std.specs.List.{AllByRecursion}
use Rattle.std.specs.Prelude.{OnOk}
use Rattle.std.proofs.lemmas.Bool.{lt-ltb, le-ltb, cases_lt}
use Rattle.std.proofs.lemmas.List.{append_cancel_left}
use Rattle.std.proofs.Math.Nat.{pow-suc}
use Rattle.cb_varint.specs.declared.fault.NumberFault.{NumberFault}
use Rattle.cb_varint.specs.Spelling.{value_of, HasTopBit, Spells}
use Rattle.cb_varint.specs.Reading.{groups_of, number_at, spelling}
use Rattle.cb_varint.specs.Laws.{OneSpelling, NoneBeginsAnother, SpellingIsIt}
use Rattle.cb_varint.proofs.Worth.{value_of-top, value_of-last, value_of-pos}
use Rattle.cb_varint.proofs.Fronts.{number_is_read}

-- the groups of a text's worth are the text
groups_again : (m : ℕ) (front : List ℕ) (last : ℕ) → AllByRecursion HasTopBit front → last < 128 → length front ≤ m → (0 < length front → last ≢ 0) → groups_of m (value_of (front ++ last ∷ [])) ≡ front ++ last ∷ []
groups_again zero [] last more ends few shortest = ap (λ (n : ℕ). n ∷ []) (value_of-last last ends)
groups_again (suc m) [] last more ends few shortest =
    let n-is = value_of-last last ends in
    rw (n-is, lt-ltb last 128 ends) refl
groups_again zero (b ∷ front) last more ends few shortest = absurd (omega arith)
groups_again (suc m) (b ∷ front) last more ends few shortest =
    let tail = value_of (front ++ last ∷ []) in
    let n-is : value_of (b ∷ front ++ last ∷ []) ≡ b - 128 + 128 * tail = value_of-top b (front ++ last ∷ []) more.0 in
    let pos = value_of-pos front last ends (shortest (omega arith)) in
    let big : ltb (value_of (b ∷ front ++ last ∷ [])) 128 ≡ false = le-ltb _ 128 (omega (arith, n-is, pos)) in
    let low : value_of (b ∷ front ++ last ∷ []) % 128 + 128 ≡ b = omega (arith, n-is, more.0) in
    let high : value_of (b ∷ front ++ last ∷ []) / 128 ≡ tail = omega (arith, n-is, more.0) in
    rw (big, low, high, groups_again m front last more.1 ends (omega arith) (λ _. shortest (omega arith))) refl

-- the groups of a number spell it
record Grouped (m n : ℕ) : Type 0 where
  front : List ℕ
  last : ℕ
  parts : groups_of m n ≡ front ++ last ∷ []
  more : AllByRecursion HasTopBit front
  ends : last < 128
  few : length front ≤ m
  nonzero : 0 < n → last ≢ 0
  single : n < 128 → front ≡ []
  worth : n ≡ value_of (front ++ last ∷ [])

grouped_one : (m n : ℕ) → groups_of m n ≡ n ∷ [] → n < 128 → Grouped m n
grouped_one m n e small = record {
  front = [];
  last = n;
  parts = e;
  more = tt;
  ends = small;
  few = omega arith;
  nonzero = λ pos z. absurd (omega (arith, pos, z));
  single = λ _. refl;
  worth = sym (value_of-last n small);
}

grouped : (m n : ℕ) → n < 128 ^ (suc m) → Grouped m n
grouped zero n small = grouped_one zero n refl (omega (arith, small, pow-suc 128 0))
grouped (suc m) n small =
    elim (cases_lt n 128) [
      | inl one ↦ grouped_one (suc m) n (rw (lt-ltb n 128 one) refl) one
      | inr more ↦
          let high : n / 128 < 128 ^ (suc m) = omega (arith, pow-suc 128 (suc m)) in
          let g = grouped m (n / 128) high in
          let top : HasTopBit (n % 128 + 128) = (omega arith, omega arith) in
          record {
            front = (n % 128 + 128) ∷ g.front;
            last = g.last;
            parts = rw (le-ltb n 128 more, g.parts) refl;
            more = (top, g.more);
            ends = g.ends;
            few = omega (arith, g.few);
            nonzero = λ _. g.nonzero (omega arith);
            single = λ h. absurd (omega arith);
            worth = omega (arith, value_of-top (n % 128 + 128) (g.front ++ g.last ∷ []) top, g.worth);
          }
    ]

pub spelled : (n : ℕ) → n < 2 ^ 32 → Spells (spelling n) n
unfolding spelling
spelled n small =
    let g = grouped 4 n (omega arith) in
    record {
      front = g.front;
      last = g.last;
      parts = g.parts;
      more = g.more;
      ends = g.ends;
      at_most_five = g.few;
      shortest = λ pos. g.nonzero (elim (cases_lt 0 n) [ inl h ↦ h | inr h ↦ absurd (omega (arith, ap length (g.single (omega arith)))) ]);
      worth = g.worth ∙ ap value_of (sym g.parts);
      fits = small;
    }

pub spelling_is : (text : List ℕ) (n : ℕ) → Spells text n → text ≡ spelling n
unfolding spelling
spelling_is text n s =
    let n-is : n ≡ value_of (s.front ++ s.last ∷ []) = s.worth ∙ ap value_of s.parts in
    s.parts ∙ sym (groups_again 4 s.front s.last s.more s.ends s.at_most_five s.shortest) ∙ ap (groups_of 4) (sym n-is)

pub one : OneSpelling
one a b n p q = spelling_is a n p ∙ sym (spelling_is b n q)

ok_is : (x y : ℕ × ℕ) → (let f : ℕ × ℕ → Result (ℕ × ℕ) NumberFault = λ z. Ok z in f x ≡ f y) → x ≡ y
ok_is x y e = cc

pub apart : NoneBeginsAnother
apart a b x y m n p q e =
    let same = ok_is _ _ (sym (number_is_read a x m p) ∙ ap number_at e ∙ number_is_read b y n q) in
    let m-is : m ≡ n = ap (λ (z : ℕ × ℕ). z.0) same in
    let a-is : a ≡ b = one a b n (subst (Spells a) m-is p) q in
    (a-is, m-is, append_cancel_left b x y (ap (λ (t : List ℕ). t ++ x) (sym a-is) ∙ e))

pub named : SpellingIsIt
named text n = (λ s. (s.fits, spelling_is text n s), λ h. subst (λ (t : List ℕ). Spells t n) (sym h.1) (spelled n h.0))

pub spelled_on_ok : {E : Type 0} (r : Result (Unit {0}) E) (old new : List ℕ) (v : ℕ) → v < 2 ^ 32 → OnOk r (new ≡ old ++ spelling v) → OnOk r ((text : List ℕ) × Spells text v × (new ≡ old ++ text))
spelled_on_ok (Ok x) old new v small e = (spelling v, spelled v small, e)
spelled_on_ok (Err x) old new v small e = tt
