-- The numbers of a row for which something holds: the first one, and how many there are.
use Rattle.std.proofs.Common.{◌≡◌, ◌≢◌, ℕ, zero, suc, ◌+◌, ◌-◌, ◌<◌, ◌≤◌, Bool, true, false, [], length, Option, Some, None, refl, sym, ap, subst, ◌∙◌, arith, inl, inr}
use Rattle.std.specs.Prelude.{is_some, option_map, slice_get}
use Rattle.std.specs.FinMap as fin
use Rattle.std.specs.Cmp.{nat_cmp_total}
use Rattle.std.specs.List.{filter, range_with_len, sum_by}
use Rattle.std.specs.Ordering.{nat_cmp, eq_by_cmp}
use Rattle.std.proofs.lemmas.Bool.{cases_lt}
use Rattle.std.proofs.lemmas.List.Sums.{sum_by-cons}
use Rattle.cb_times.proofs.Entries.{equal_numbers, other_numbers}
use Rattle.cb_history.specs.Helping.{first_where}
use Rattle.cb_member.proofs.Telling.{row_more}

-- ---- the first one

pub first_in_row : (p : ℕ → Bool) (a l n : ℕ) → a ≤ n → n < a + l → p n ≡ true → ((k : ℕ) → a ≤ k → k < n → p k ≡ false) → slice_get (filter p (range_with_len a l)) 0 ≡ Some n
first_in_row p a zero n from below holds fails = absurd (omega (arith, from, below))
first_in_row p a (suc l) n from below holds fails = elim (cases_lt a n) [
  | inl later ↦ rw (fails a (omega arith) later) (first_in_row p (a + 1) l n (omega (arith, later)) (omega (arith, below)) holds (λ k low high. fails k (omega (arith, low)) high))
  | inr upto ↦
      let here : n ≡ a = omega (arith, from, upto) in
      let now : p a ≡ true = subst (λ (k : ℕ). p k ≡ true) here holds in
      rw now (ap (λ (k : ℕ). Some k) (sym here))
]

pub none_in_row : (p : ℕ → Bool) (a l : ℕ) → ((k : ℕ) → a ≤ k → k < a + l → p k ≡ false) → filter p (range_with_len a l) ≡ []
none_in_row p a zero fails = refl
none_in_row p a (suc l) fails = rw (fails a (omega arith) (omega arith)) (none_in_row p (a + 1) l (λ k low high. fails k (omega (arith, low)) (omega (arith, high))))

pub first_where_row : (p : ℕ → Bool) (a l n : ℕ) → a ≤ n → n < a + l → p n ≡ true → ((k : ℕ) → a ≤ k → k < n → p k ≡ false) → first_where p (range_with_len a l) ≡ Some n
first_where_row p a zero n from below holds fails = absurd (omega (arith, from, below))
first_where_row p a (suc l) n from below holds fails = elim (cases_lt a n) [
  | inl later ↦ rw (fails a (omega arith) later) (first_where_row p (a + 1) l n (omega (arith, later)) (omega (arith, below)) holds (λ k low high. fails k (omega (arith, low)) high))
  | inr upto ↦
      let here : n ≡ a = omega (arith, from, upto) in
      let now : p a ≡ true = subst (λ (k : ℕ). p k ≡ true) here holds in
      rw now (ap (λ (k : ℕ). Some k) (sym here))
]

-- what is said of the first one is the same for two tests that are one on the row
pub same_first : {A : Type 0} (p q : ℕ → Bool) (f g : ℕ → A) (a l : ℕ) → ((k : ℕ) → a ≤ k → k < a + l → p k ≡ q k) → ((k : ℕ) → a ≤ k → k < a + l → p k ≡ true → f k ≡ g k)
    → option_map f (first_where p (range_with_len a l)) ≡ option_map g (first_where q (range_with_len a l))
same_first p q f g a zero same says = refl
same_first {A} p q f g a (suc l) same says =
    by_head (same_first p q f g (a + 1) l (λ k low high. same k (omega (arith, low)) (omega (arith, high))) (λ k low high. says k (omega (arith, low)) (omega (arith, high)))) (p a) refl
  where
    by_head : option_map f (first_where p (range_with_len (a + 1) l)) ≡ option_map g (first_where q (range_with_len (a + 1) l)) → (b : Bool) → p a ≡ b → option_map f (first_where p (range_with_len a (suc l))) ≡ option_map g (first_where q (range_with_len a (suc l)))
    by_head rest true e =
        let other : q a ≡ true = sym (same a (omega arith) (omega arith)) ∙ e in
        rw (e, other) (ap (λ (x : A). Some x) (says a (omega arith) (omega arith) e))
    by_head rest false e =
        let other : q a ≡ false = sym (same a (omega arith) (omega arith)) ∙ e in
        rw (e, other) rest

-- ---- how many there are

pub few_in_row : (p : ℕ → Bool) (a l : ℕ) → length (filter p (range_with_len a l)) ≤ l
few_in_row p a zero = omega arith
few_in_row p a (suc l) = by_head (few_in_row p (a + 1) l) (p a) refl
  where
    by_head : length (filter p (range_with_len (a + 1) l)) ≤ l → (b : Bool) → p a ≡ b → length (filter p (range_with_len a (suc l))) ≤ suc l
    by_head rest true e = rw e (omega (arith, rest))
    by_head rest false e = rw e (omega (arith, rest))

-- it holds of the first ones
pub all_and_then : (p : ℕ → Bool) (a x y t : ℕ) → t ≡ x + y → ((k : ℕ) → a ≤ k → k < a + x → p k ≡ true) → length (filter p (range_with_len a t)) ≡ x + length (filter p (range_with_len (a + x) y))
all_and_then p a zero y t is holds =
    let all : t ≡ y = omega (arith, is) in
    let from : a ≡ a + 0 = omega arith in
    let rest : length (filter p (range_with_len a t)) ≡ length (filter p (range_with_len (a + 0) y)) =
    ap (λ (n : ℕ). length (filter p (range_with_len a n))) all ∙ ap (λ (b : ℕ). length (filter p (range_with_len b y))) from in
    omega (arith, rest)
all_and_then p a (suc x) y t is holds =
    let all : t ≡ suc (x + y) = omega (arith, is) in
    let from : a + 1 + x ≡ a + suc x = omega arith in
    let rest = all_and_then p (a + 1) x y (x + y) refl (λ k low high. holds k (omega (arith, low)) (omega (arith, high))) in
    let behind : length (filter p (range_with_len (a + 1 + x) y)) ≡ length (filter p (range_with_len (a + suc x) y)) = ap (λ (b : ℕ). length (filter p (range_with_len b y))) from in
    let one : length (filter p (range_with_len a (suc (x + y)))) ≡ suc (length (filter p (range_with_len (a + 1) (x + y)))) = rw (holds a (omega arith) (omega arith)) refl in
    let here : length (filter p (range_with_len a t)) ≡ length (filter p (range_with_len a (suc (x + y)))) = ap (λ (n : ℕ). length (filter p (range_with_len a n))) all in
    omega (arith, rest, behind, one, here)

same_number : (n : ℕ) → eq_by_cmp nat_cmp n n ≡ true
same_number n = equal_numbers n n refl

-- it holds of the keys of a map, all of which stand in the row
abbrev AreKeys : {X : Type 0} → (ℕ → Bool) → ℕ → ℕ → fin.FinMap nat_cmp X → Type 0
AreKeys p a l m = ((n : ℕ) → a ≤ n → n < a + l → is_some (fin.get m n) ≡ p n) × ((n : ℕ) → is_some (fin.get m n) ≡ true → (a ≤ n) × (n < a + l))

no_key : {X : Type 0} (p : ℕ → Bool) (a l : ℕ) (m : fin.FinMap nat_cmp X) → AreKeys p a (suc l) m → p a ≡ false → AreKeys p (a + 1) l m
no_key p a l m keys e = (
  λ n low high. keys.0 n (omega (arith, low)) (omega (arith, high)),
  λ n some.
      let in_row = keys.1 n some in
      let is_first : is_some (fin.get m a) ≡ p a = keys.0 a (omega arith) (omega arith) in
      let other : n ≢ a = λ here. (let one : true ≡ false = sym some ∙ ap (λ (k : ℕ). is_some (fin.get m k)) here ∙ is_first ∙ e in cc) in
      (omega (arith, in_row.0, other), omega (arith, in_row.1)),
)

-- without its first key
module _ {X : Type 0} (p : ℕ → Bool) (a l : ℕ) (m : fin.FinMap nat_cmp X) (keys : AreKeys p a (suc l) m) (e : p a ≡ true) where
  is_key : is_some (fin.get m a) ≡ true
  is_key = keys.0 a (omega arith) (omega arith) ∙ e

  others_stay : (n : ℕ) → n ≢ a → is_some (fin.get (fin.remove m a) n) ≡ is_some (fin.get m n)
  others_stay n other = ap is_some (fin.get-remove nat_cmp_total m a n ∙ rw (other_numbers n a other) refl)

  is_removed : fin.get (fin.remove m a) a ≡ None
  is_removed = fin.get-remove nat_cmp_total m a a ∙ rw (same_number a) refl

  other_keys : AreKeys p (a + 1) l (fin.remove m a)
  other_keys = (
    λ n low high. others_stay n (λ here. omega (arith, low, here)) ∙ keys.0 n (omega (arith, low)) (omega (arith, high)),
    λ n some.
        let other : n ≢ a = λ here. (let one : true ≡ false = sym some ∙ ap (λ (k : ℕ). is_some (fin.get (fin.remove m a) k)) here ∙ ap is_some is_removed in cc) in
        let in_row = keys.1 n (sym (others_stay n other) ∙ some) in
        (omega (arith, in_row.0, other), omega (arith, in_row.1)),
  )

  one_fewer : fin.len m ≡ suc (fin.len (fin.remove m a))
  one_fewer =
      let less : fin.len (fin.remove m a) ≡ fin.len m - 1 = fin.len-remove nat_cmp_total m a ∙ rw is_key refl in
      let some : 0 < fin.len m = elim (cases_lt 0 (fin.len m)) as (λ _. 0 < fin.len m) [
        | inl filled ↦ filled
        | inr empty ↦ absurd (
            let none : fin.get m a ≡ None = ap (λ (e : fin.FinMap nat_cmp X). fin.get e a) (fin.empty_of_len m (omega (arith, empty))) ∙ fin.get-empty nat_cmp a in
            let one : true ≡ false = sym is_key ∙ ap is_some none in
            cc)
      ] in
      omega (arith, less, some)

no_keys : {X : Type 0} (p : ℕ → Bool) (a : ℕ) (m : fin.FinMap nat_cmp X) → AreKeys p a 0 m → fin.len m ≡ 0
no_keys {X} p a m keys =
    let none : m ≡ fin.empty = fin.same_map nat_cmp_total fin.nat_cmp-IsAntisymmetric m fin.empty (λ q. nothing q (fin.get m q) refl ∙ sym (fin.get-empty nat_cmp q)) in
    ap (λ (e : fin.FinMap nat_cmp X). fin.len e) none ∙ fin.len-empty nat_cmp X
  where
    nothing : (q : ℕ) (o : Option X) → fin.get m q ≡ o → fin.get m q ≡ None
    nothing q None e = e
    nothing q (Some x) e = absurd (let in_row = keys.1 q (ap is_some e) in omega (arith, in_row.0, in_row.1))

pub keys_in_row : {X : Type 0} (p : ℕ → Bool) (a l : ℕ) (m : fin.FinMap nat_cmp X) → AreKeys p a l m → length (filter p (range_with_len a l)) ≡ fin.len m
keys_in_row p a zero m keys = sym (no_keys p a m keys)
keys_in_row {X} p a (suc l) m keys = by_head (λ m keys. keys_in_row p (a + 1) l m keys) (p a) refl
  where
    by_head : ((m : fin.FinMap nat_cmp X) → AreKeys p (a + 1) l m → length (filter p (range_with_len (a + 1) l)) ≡ fin.len m)
        → (b : Bool) → p a ≡ b → length (filter p (range_with_len a (suc l))) ≡ fin.len m
    by_head rest false e = rw e (rest m (no_key p a l m keys e))
    by_head rest true e =
        let others = rest (fin.remove m a) (other_keys p a l m keys e) in
        let fewer = one_fewer p a l m keys e in
        rw e (omega (arith, others, fewer))

-- ---- a sum over a row

pub sum_more : (f : ℕ → ℕ) (n i so_far whole : ℕ) → i < n → so_far + sum_by f (range_with_len i (n - i)) ≡ whole → (so_far + f i) + sum_by f (range_with_len (i + 1) (n - (i + 1))) ≡ whole
sum_more f n i so_far whole lt is =
    let more : sum_by f (range_with_len i (n - i)) ≡ f i + sum_by f (range_with_len (i + 1) (n - (i + 1))) =
    ap (sum_by f) (row_more n i lt) ∙ sum_by-cons f i (range_with_len (i + 1) (n - (i + 1))) in
    omega (arith, is, more)

pub sum_done : (f : ℕ → ℕ) (n i so_far whole : ℕ) → n ≤ i → so_far + sum_by f (range_with_len i (n - i)) ≡ whole → so_far ≡ whole
sum_done f n i so_far whole past is =
    let none : n - i ≡ 0 = omega (arith, past) in
    let nothing : sum_by f (range_with_len i (n - i)) ≡ 0 = ap (λ (l : ℕ). sum_by f (range_with_len i l)) none in
    omega (arith, is, nothing)
