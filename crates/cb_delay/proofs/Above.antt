-- A stamp that counts the message itself, one more than was delivered of its sender, is ready where it counts more of nobody else.
use Rattle.std.proofs.Common.{◌≡◌, ◌≢◌, ◌⊎◌, ℕ, zero, suc, ◌+◌, ◌<◌, ◌≤◌, Bool, true, false, cond, List, [], ◌∷◌, length, refl, sym, ap, ◌∙◌, arith, inl, inr}
use Rattle.std.specs.Prelude.{count_by}
use Rattle.std.specs.List.{range_with_len}
use Rattle.std.proofs.lemmas.Bool.{cases_eq, cases_lt, lt-ltb, le-ltb}
use Rattle.std.proofs.lemmas.List.{get_or_past}
use Rattle.std.proofs.lemmas.List.Sums.{sum_by-cons}
use Rattle.cb_times.specs.Order.{field}
use Rattle.cb_delay.specs.Rule.{IsReady, is_above}

abbrev pub one_if : Bool → ℕ
one_if b = cond b 1 0

count_more : (p : ℕ → Bool) (k : ℕ) (ks : List ℕ) → count_by p (k ∷ ks) ≡ one_if (p k) + count_by p ks
count_more p k ks = sum_by-cons (λ k. cond (p k) 1 0) k ks

one_at_most : (b : Bool) → one_if b ≤ 1
one_at_most true = omega arith
one_at_most false = omega arith

-- one more of a range is counted, where it is above
counted_more : (p : ℕ → Bool) (a n : ℕ) → count_by p (range_with_len a (suc n)) ≡ count_by p (range_with_len a n) + one_if (p (a + n))
counted_more p a zero =
    let here : one_if (p (a + 0)) ≡ one_if (p a) = ap (λ k. one_if (p k)) (omega arith) in
    omega (arith, count_more p a [], here)
counted_more p a (suc n) =
    let here : one_if (p (a + 1 + n)) ≡ one_if (p (a + suc n)) = ap (λ k. one_if (p k)) (omega arith) in
    let more : count_by p (range_with_len a (suc (suc n))) ≡ one_if (p a) + count_by p (range_with_len (a + 1) (suc n)) = count_more p a (range_with_len (a + 1) (suc n)) in
    let fewer : count_by p (range_with_len a (suc n)) ≡ one_if (p a) + count_by p (range_with_len (a + 1) n) = count_more p a (range_with_len (a + 1) n) in
    omega (arith, more, fewer, counted_more p (a + 1) n, here)

-- and so it goes on where one field after another is counted
pub counted_so_far : (p : ℕ → Bool) (a n above one : ℕ) → one ≡ one_if (p (a + n)) → above ≡ count_by p (range_with_len a n) → above ≤ n
    → (above + one ≡ count_by p (range_with_len a (n + 1))) × (above + one ≤ n + 1)
counted_so_far p a n above one here so_far few =
    let after : n + 1 ≡ suc n = omega arith in
    let next : count_by p (range_with_len a (n + 1)) ≡ count_by p (range_with_len a (suc n)) = ap (λ k. count_by p (range_with_len a k)) after in
    (omega (arith, here, so_far, next, counted_more p a n), omega (arith, here, few, one_at_most (p (a + n))))

both : (b : Bool) → (b ≡ true) ⊎ (b ≡ false)
both true = inl refl
both false = inr refl

-- nobody is counted, and the other way round
none_counted : (p : ℕ → Bool) (a n : ℕ) → ((k : ℕ) → a ≤ k → k < a + n → p k ≡ false) → count_by p (range_with_len a n) ≡ 0
none_counted p a zero none = refl
none_counted p a (suc n) none =
    let here : one_if (p a) ≡ 0 = ap one_if (none a (omega arith) (omega arith)) in
    let rest = none_counted p (a + 1) n (λ k from upto. none k (omega (arith, from)) (omega (arith, upto))) in
    omega (arith, count_more p a (range_with_len (a + 1) n), here, rest)

counts_nobody : (p : ℕ → Bool) (a n k : ℕ) → count_by p (range_with_len a n) ≡ 0 → a ≤ k → k < a + n → p k ≡ false
counts_nobody p a zero k is from upto = absurd (omega (arith, from, upto))
counts_nobody p a (suc n) k is from upto = elim (both (p a)) [
  | inl holds ↦
      let one : one_if (p a) ≡ 1 = ap one_if holds in
      absurd (omega (arith, count_more p a (range_with_len (a + 1) n), is, one))
  | inr fails ↦
      let here : one_if (p a) ≡ 0 = ap one_if fails in
      elim (cases_eq a k) [
        | inl same ↦ ap p (sym same) ∙ fails
        | inr other ↦ counts_nobody p (a + 1) n k (omega (arith, count_more p a (range_with_len (a + 1) n), is, here)) (omega (arith, from, other)) (omega (arith, upto))
      ]
]

-- who is counted alone, is counted once
one_counted : (p : ℕ → Bool) (a n own : ℕ) → a ≤ own → own < a + n → p own ≡ true → ((k : ℕ) → a ≤ k → k < a + n → k ≢ own → p k ≡ false)
    → count_by p (range_with_len a n) ≡ 1
one_counted p a zero own from upto holds others = absurd (omega (arith, from, upto))
one_counted p a (suc n) own from upto holds others = elim (cases_eq a own) [
  | inl same ↦
      let one : one_if (p a) ≡ 1 = ap one_if (ap p same ∙ holds) in
      let rest = none_counted p (a + 1) n (λ k after below. others k (omega (arith, after)) (omega (arith, below)) (λ e. omega (arith, e, after, same))) in
      omega (arith, count_more p a (range_with_len (a + 1) n), one, rest)
  | inr other ↦
      let none : one_if (p a) ≡ 0 = ap one_if (others a (omega arith) (omega arith) other) in
      let rest = one_counted p (a + 1) n own (omega (arith, from, other)) (omega (arith, upto)) holds (λ k after below ne. others k (omega (arith, after)) (omega (arith, below)) ne) in
      omega (arith, count_more p a (range_with_len (a + 1) n), none, rest)
]

-- where one is counted, nobody else is
counts_nobody_else : (p : ℕ → Bool) (a n own k : ℕ) → count_by p (range_with_len a n) ≡ 1 → a ≤ own → own < a + n → p own ≡ true → a ≤ k → k < a + n → k ≢ own → p k ≡ false
counts_nobody_else p a zero own k is from upto holds after below ne = absurd (omega (arith, from, upto))
counts_nobody_else p a (suc n) own k is from upto holds after below ne = elim (cases_eq a own) [
  | inl same ↦
      let one : one_if (p a) ≡ 1 = ap one_if (ap p same ∙ holds) in
      counts_nobody p (a + 1) n k (omega (arith, count_more p a (range_with_len (a + 1) n), is, one)) (above a own k same after ne) (omega (arith, below))
  | inr other ↦ elim (both (p a)) [
    | inl one_more ↦
        let one : one_if (p a) ≡ 1 = ap one_if one_more in
        let none = counts_nobody p (a + 1) n own (omega (arith, count_more p a (range_with_len (a + 1) n), is, one)) (omega (arith, from, other)) (omega (arith, upto)) in
        absurd (differ (sym holds ∙ none))
    | inr fails ↦
        let none : one_if (p a) ≡ 0 = ap one_if fails in
        elim (cases_eq a k) [
          | inl here ↦ ap p (sym here) ∙ fails
          | inr there ↦ counts_nobody_else p (a + 1) n own k (omega (arith, count_more p a (range_with_len (a + 1) n), is, none)) (omega (arith, from, other)) (omega (arith, upto)) holds (omega (arith, after, there)) (omega (arith, below)) ne
        ]
  ]
]
  where
    differ : ¬ (true ≡ false)
    differ e = absurd cc

    above : (a own k : ℕ) → a ≡ own → a ≤ k → k ≢ own → a + 1 ≤ k
    above a own k same after ne = elim (cases_eq k a) [
      | inl e ↦ absurd (ne (e ∙ same))
      | inr other ↦ omega (arith, after, other)
    ]

-- the stamp counts one more of its sender, so its sender is above
own_above : (stamp now : List ℕ) (own : ℕ) → field stamp own ≡ field now own + 1 → is_above (field stamp) (field now) own ≡ true
own_above stamp now own next = lt-ltb (field now own) (field stamp own) (omega (arith, next))

pub ready_counts_one : (stamp now : List ℕ) (own : ℕ) → own < length now → IsReady own (field stamp) (field now)
    → count_by (is_above (field stamp) (field now)) (range_with_len 0 (length now)) ≡ 1
ready_counts_one stamp now own within ready =
    one_counted (is_above (field stamp) (field now)) 0 (length now) own (omega arith) (omega (arith, within)) (own_above stamp now own ready.next)
    (λ k from upto ne. le-ltb (field now k) (field stamp k) (ready.others k ne))

-- the stamp is at most the other where it is not above
at_most_of : (stamp now : List ℕ) (k : ℕ) → is_above (field stamp) (field now) k ≡ false → field stamp k ≤ field now k
at_most_of stamp now k fails = elim (cases_lt (field now k) (field stamp k)) [
  | inl below ↦ absurd (differ (sym (lt-ltb (field now k) (field stamp k) below) ∙ fails))
  | inr at_most ↦ at_most
]
  where
    differ : ¬ (true ≡ false)
    differ e = absurd cc

-- of some fields from this one on, where none is above, or one field alone that is known to be
pub none_is_above : (stamp now : List ℕ) (a n k : ℕ) → count_by (is_above (field stamp) (field now)) (range_with_len a n) ≡ 0
    → a ≤ k → k < a + n → field stamp k ≤ field now k
none_is_above stamp now a n k none from upto = at_most_of stamp now k (counts_nobody (is_above (field stamp) (field now)) a n k none from upto)

pub no_other_is_above : (stamp now : List ℕ) (a n own k : ℕ) → count_by (is_above (field stamp) (field now)) (range_with_len a n) ≡ 1
    → a ≤ own → own < a + n → field now own < field stamp own → a ≤ k → k < a + n → k ≢ own → field stamp k ≤ field now k
no_other_is_above stamp now a n own k one own_from own_upto is from upto other =
    at_most_of stamp now k
    (counts_nobody_else (is_above (field stamp) (field now)) a n own k one own_from own_upto (lt-ltb (field now own) (field stamp own) is) from upto other)

pub counts_one_ready : (stamp now : List ℕ) (own : ℕ) → own < length now → length stamp ≡ length now → field stamp own ≡ field now own + 1
    → count_by (is_above (field stamp) (field now)) (range_with_len 0 (length now)) ≡ 1 → IsReady own (field stamp) (field now)
counts_one_ready stamp now own within fits next is = record { next = next; others = others }
  where
    others : (k : ℕ) → k ≢ own → field stamp k ≤ field now k
    others k ne = elim (cases_lt k (length now)) [
      | inl lt ↦ no_other_is_above stamp now 0 (length now) own k is (omega arith) (omega (arith, within)) (omega (arith, next)) (omega arith) (omega (arith, lt)) ne
      | inr past ↦ omega (arith, get_or_past stamp k 0 (omega (arith, past, fits)))
    ]
