-- What is missing, number by number and as ranges.
use Rattle.std.proofs.Common.{◌≡◌, ◌≢◌, ℕ, zero, suc, ◌+◌, ◌-◌, ◌<◌, ◌≤◌, Bool, true, false, not, eqb, List, [], ◌∷◌, min, refl, sym, ap, ◌∙◌, arith, inl, inr, ◌⊎◌, All, Any, AllPairs}
use Rattle.std.specs.List.{filter, range_with_len}
use Rattle.std.proofs.Math.Nat.{eq-or-lt_of_le}
use Rattle.std.proofs.lemmas.Bool.{cond_both, eqb-true, eqb-false}
use Rattle.std.proofs.lemmas.List.Elements.{All-nil, All-cons, All-weaker}
use Rattle.std.proofs.lemmas.List.Kept.{AllPairs-cons}
use Rattle.cb_frames.specs.declared.frame.Range.{Range}
use Rattle.cb_history.specs.Facts.{casts_in, is_there, numbers_between}
use Rattle.cb_history.specs.View.{count, view}
use Rattle.cb_history.specs.Known.{known, expanded_count, missing, ranges_of, before_ranges}
use Rattle.cb_gaps.specs.Ranges.{IsWithin}
use Rattle.cb_gaps.proofs.Gaps.{any_cons, any_cases, at_front, none_in}
use Rattle.cb_history.specs.GapLaws.{Has, MissingIsExact, RangesOfMissing}
use Rattle.cb_history.proofs.Views.{not_true}

-- ---- numbers that pass a test

has_filtered : (p : ℕ → Bool) (xs : List ℕ) (n : ℕ) → Has (filter p xs) n → (p n ≡ true) × Has xs n
has_filtered p [] n h = absurd h
has_filtered p (x ∷ xs) n h =
    cond_both (p x) (x ∷ filter p xs) (filter p xs) (λ (ys : List ℕ). Has ys n → (p n ≡ true) × Has (x ∷ xs) n)
    (λ yes there. elim there [
      | inl same ↦ (ap p (sym same) ∙ yes, inl same)
      | inr later ↦ let r = has_filtered p xs n later in (r.0, inr r.1)
    ])
    (λ no there. let r = has_filtered p xs n there in (r.0, inr r.1)) h

filtered_has : (p : ℕ → Bool) (xs : List ℕ) (n : ℕ) → p n ≡ true → Has xs n → Has (filter p xs) n
filtered_has p [] n passes h = absurd h
filtered_has p (x ∷ xs) n passes h =
    cond_both (p x) (x ∷ filter p xs) (filter p xs) (λ (ys : List ℕ). Has ys n)
    (λ yes. elim h [ inl same ↦ inl same | inr later ↦ inr (filtered_has p xs n passes later) ])
    (λ no. elim h [ inl same ↦ absurd (let q : p x ≡ true = ap p same ∙ passes in cc) | inr later ↦ filtered_has p xs n passes later ])

pub has_range : (a len n : ℕ) → Has (range_with_len a len) n → (a ≤ n) × (n < a + len)
has_range a zero n h = absurd h
has_range a (suc len) n (inl same) = (omega (arith, same), omega (arith, same))
has_range a (suc len) n (inr later) = let r = has_range (a + 1) len n later in (omega (arith, r.0), omega (arith, r.1))

pub range_has : (a len n : ℕ) → a ≤ n → n < a + len → Has (range_with_len a len) n
range_has a zero n low high = absurd (omega (arith, low, high))
range_has a (suc len) n low high =
    elim (eq-or-lt_of_le low) [
      | inl same ↦ inl same
      | inr later ↦ inr (range_has (a + 1) len n (omega (arith, later)) (omega (arith, high)))
    ]

false_not : (b : Bool) → b ≡ false → not b ≡ true
false_not true h = absurd cc
false_not false h = refl

within_both : (n a b : ℕ) → n ≤ min a b → (n ≤ a) × (n ≤ b)
within_both n a b h = (omega (arith, h), omega (arith, h))

pub missing_is_exact : MissingIsExact
missing_is_exact seat facts i n =
    let low = expanded_count (casts_in facts) i in
    let high = min (known facts i) (count (view seat.group.size facts) i + seat.group.window) in
    let test : ℕ → Bool = λ k. not (is_there (casts_in facts) i k) in (
      λ h.
          let found = has_filtered test (numbers_between low high) n h in
          let bounds = has_range (low + 1) (high - low) n found.1 in
          let upto = within_both n (known facts i) (count (view seat.group.size facts) i + seat.group.window) (omega (arith, bounds.0, bounds.1)) in
          record { above = omega (arith, bounds.0); heard_of = upto.0; in_window = upto.1; not_there = not_true (is_there (casts_in facts) i n) found.0 },
      λ m.
          let above = m.above in
          let heard_of = m.heard_of in
          let in_window = m.in_window in
          let upto : n ≤ high = omega (arith, heard_of, in_window) in
          filtered_has test (numbers_between low high) n (false_not (is_there (casts_in facts) i n) m.not_there) (range_has (low + 1) (high - low) n (omega (arith, above)) (omega (arith, above, upto))),
    )

-- ---- ranges

-- the numbers rise from `low` on
abbrev RiseFrom : ℕ → List ℕ → Type 0
RiseFrom low [] = Unit {0}
RiseFrom low (n ∷ ns) = (low ≤ n) × RiseFrom (n + 1) ns

rise_lower : (low high : ℕ) (ns : List ℕ) → low ≤ high → RiseFrom high ns → RiseFrom low ns
rise_lower low high [] le r = tt
rise_lower low high (n ∷ ns) le r = (let first = r.0 in omega (arith, le, first), r.1)

rise_range : (a len : ℕ) → RiseFrom a (range_with_len a len)
rise_range a zero = tt
rise_range a (suc len) = (omega arith, rise_range (a + 1) len)

rise_filter : (p : ℕ → Bool) (low : ℕ) (ns : List ℕ) → RiseFrom low ns → RiseFrom low (filter p ns)
rise_filter p low [] r = tt
rise_filter p low (n ∷ ns) r =
    let first = r.0 in
    cond_both (p n) (n ∷ filter p ns) (filter p ns) (RiseFrom low)
    (λ yes. (first, rise_filter p (n + 1) ns r.1))
    (λ no. rise_lower low (n + 1) (filter p ns) (omega (arith, first)) (rise_filter p (n + 1) ns r.1))

-- a number lies in one of these ranges
abbrev InSome : List Range → ℕ → Type 0
InSome [] n = ⊥
InSome (r ∷ ranges) n = IsWithin n r ⊎ InSome ranges n

-- no range is empty, and between two some number is left out
abbrev AreApart : List Range → Type 0
AreApart [] = Unit {0}
AreApart (r ∷ []) = r.first ≤ r.last
AreApart (r ∷ s ∷ ranges) = (r.first ≤ r.last) × (r.last + 2 ≤ s.first) × AreApart (s ∷ ranges)

abbrev FirstFrom : ℕ → List Range → Type 0
FirstFrom low [] = Unit {0}
FirstFrom low (r ∷ ranges) = low ≤ r.first

-- what is so of the ranges of numbers that rise from `low` on
record AreRangesFrom (low : ℕ) (ns : List ℕ) (ranges : List Range) : Type 0 where
  same : (n : ℕ) → InSome ranges n → Has ns n
  all : (n : ℕ) → Has ns n → InSome ranges n
  apart : AreApart ranges
  from : FirstFrom low ranges

first_filled : (r : Range) (ranges : List Range) → AreApart (r ∷ ranges) → r.first ≤ r.last
first_filled r [] a = a
first_filled r (s ∷ ranges) a = a.0

widened : (n : ℕ) (r : Range) (ranges : List Range) → n ≤ r.first → AreApart (r ∷ ranges) → AreApart (record { first = n; last = r.last } ∷ ranges)
widened n r [] le a = omega (arith, le, a)
widened n r (s ∷ ranges) le a = (let filled = a.0 in omega (arith, le, filled), a.1, a.2)

alone : (low n : ℕ) (ns : List ℕ) → low ≤ n → AreRangesFrom (n + 1) ns [] → AreRangesFrom low (n ∷ ns) (record { first = n; last = n } ∷ [])
alone low n ns le x = record {
  same = λ k h. elim h [ inl in_it ↦ inl (let l = in_it.0 in let u = in_it.1 in omega (arith, l, u)) | inr other ↦ absurd other ];
  all = λ k h. elim h [ inl same ↦ inl (omega (arith, same), omega (arith, same)) | inr later ↦ absurd (x.all k later) ];
  apart = omega arith;
  from = le;
}

joined : (low n : ℕ) (ns : List ℕ) (r : Range) (ranges : List Range) → low ≤ n → r.first ≡ n + 1 → AreRangesFrom (n + 1) ns (r ∷ ranges) → AreRangesFrom low (n ∷ ns) (record { first = n; last = r.last } ∷ ranges)
joined low n ns r ranges le touches x =
    let filled = first_filled r ranges x.apart in
    record {
      same = λ k h. elim h [
        | inl in_it ↦ (let l = in_it.0 in let u = in_it.1 in elim (eq-or-lt_of_le l) [ inl same ↦ inl same | inr later ↦ inr (x.same k (inl (omega (arith, touches, later), u))) ])
        | inr other ↦ inr (x.same k (inr other))
      ];
      all = λ k h. elim h [
        | inl same ↦ inl (omega (arith, same), omega (arith, same, touches, filled))
        | inr later ↦ elim (x.all k later) [
          | inl in_it ↦ inl (let l = in_it.0 in omega (arith, l, touches), in_it.1)
          | inr other ↦ inr other
        ]
      ];
      apart = widened n r ranges (omega (arith, touches)) x.apart;
      from = le;
    }

beside : (low n : ℕ) (ns : List ℕ) (r : Range) (ranges : List Range) → low ≤ n → r.first ≢ n + 1 → AreRangesFrom (n + 1) ns (r ∷ ranges) → AreRangesFrom low (n ∷ ns) (record { first = n; last = n } ∷ r ∷ ranges)
beside low n ns r ranges le apart x =
    let from = x.from in
    record {
      same = λ k h. elim h [
        | inl in_it ↦ inl (let l = in_it.0 in let u = in_it.1 in omega (arith, l, u))
        | inr other ↦ inr (x.same k other)
      ];
      all = λ k h. elim h [
        | inl same ↦ inl (omega (arith, same), omega (arith, same))
        | inr later ↦ inr (x.all k later)
      ];
      apart = (omega arith, omega (arith, from, apart), x.apart);
      from = le;
    }

one_before : (low n : ℕ) (ns : List ℕ) (ranges : List Range) → low ≤ n → AreRangesFrom (n + 1) ns ranges → AreRangesFrom low (n ∷ ns) (before_ranges n ranges)
one_before low n ns [] le x = alone low n ns le x
one_before low n ns (r ∷ ranges) le x =
    cond_both (eqb r.first (n + 1)) (record { first = n; last = r.last } ∷ ranges) (record { first = n; last = n } ∷ r ∷ ranges) (AreRangesFrom low (n ∷ ns))
    (λ yes. joined low n ns r ranges le (eqb-true r.first (n + 1) yes) x)
    (λ no. beside low n ns r ranges le (eqb-false r.first (n + 1) no) x)

all_ranges : (low : ℕ) (ns : List ℕ) → RiseFrom low ns → AreRangesFrom low ns (ranges_of ns)
all_ranges low [] r = record { same = λ n h. h; all = λ n h. h; apart = tt; from = tt }
all_ranges low (n ∷ ns) r = one_before low n ns (ranges_of ns) r.0 (all_ranges (n + 1) ns r.1)

-- ---- the same in the words of ranges

some_any : (ranges : List Range) (n : ℕ) → InSome ranges n → Any (IsWithin n) ranges
some_any [] n h = absurd h
some_any (r ∷ ranges) n (inl within) = at_front (IsWithin n) r ranges within
some_any (r ∷ ranges) n (inr later) = any_cons (IsWithin n) r ranges (some_any ranges n later)

any_some : (ranges : List Range) (n : ℕ) → Any (IsWithin n) ranges → InSome ranges n
any_some [] n h = none_in (IsWithin n) h
any_some (r ∷ ranges) n h = elim (any_cases (IsWithin n) r ranges h) [ inl within ↦ inl within | inr later ↦ inr (any_some ranges n later) ]

tail_apart : (r : Range) (ranges : List Range) → AreApart (r ∷ ranges) → AreApart ranges
tail_apart r [] a = tt
tail_apart r (s ∷ ranges) a = a.2

all_filled : (ranges : List Range) → AreApart ranges → All (λ r. r.first ≤ r.last) ranges
all_filled [] a = All-nil (λ (r : Range). r.first ≤ r.last)
all_filled (r ∷ ranges) a = All-cons (λ (x : Range). x.first ≤ x.last) r ranges (first_filled r ranges a) (all_filled ranges (tail_apart r ranges a))

all_beyond : (r : Range) (ranges : List Range) → AreApart (r ∷ ranges) → All (λ s. r.last + 2 ≤ s.first) ranges
all_beyond r [] a = All-nil (λ (s : Range). r.last + 2 ≤ s.first)
all_beyond r (s ∷ ranges) a =
    let gap = a.1 in
    let filled = first_filled s ranges a.2 in
    All-cons (λ (x : Range). r.last + 2 ≤ x.first) s ranges gap
    (All-weaker (λ (x : Range). s.last + 2 ≤ x.first) (λ (x : Range). r.last + 2 ≤ x.first) (λ x h. omega (arith, gap, filled, h)) ranges (all_beyond s ranges a.2))

all_apart : (ranges : List Range) → AreApart ranges → AllPairs (λ earlier later. earlier.last + 2 ≤ later.first) ranges
all_apart [] a = λ i j d order below. absurd (omega (arith, below))
all_apart (r ∷ ranges) a = AllPairs-cons (λ (x y : Range). x.last + 2 ≤ y.first) r ranges (all_beyond r ranges a) (all_apart ranges (tail_apart r ranges a))

pub ranges_of_missing : RangesOfMissing
ranges_of_missing seat facts i =
    let low = expanded_count (casts_in facts) i in
    let high = min (known facts i) (count (view seat.group.size facts) i + seat.group.window) in
    let rise = rise_filter (λ k. not (is_there (casts_in facts) i k)) (low + 1) (numbers_between low high) (rise_range (low + 1) (high - low)) in
    let are = all_ranges (low + 1) (missing seat facts i) rise in
    let ranges = ranges_of (missing seat facts i) in
    record {
      exactly = λ n. ((λ h. (missing_is_exact seat facts i n).0 (are.same n (any_some ranges n h))), (λ h. some_any ranges n (are.all n ((missing_is_exact seat facts i n).1 h))));
      filled = all_filled ranges are.apart;
      apart = all_apart ranges are.apart;
    }
