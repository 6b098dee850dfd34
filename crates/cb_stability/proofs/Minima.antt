-- Of a sender the least count of the others, and how many stand at it.
use Rattle.std.proofs.Common.{◌≡◌, ◌≢◌, ℕ, zero, suc, ◌+◌, ◌<◌, ◌≤◌, ◌⊎◌, inl, inr, true, false, List, [], length, get_or, ◌-◌, sym, ◌∙◌, ap, subst, arith, refl}
use Rattle.std.specs.Prelude.{◌==◌, nat_lt, if◌then◌else◌}
use Rattle.std.proofs.lemmas.List.{get_or_default}
use Rattle.std.proofs.lemmas.Bool.{cases_lt}
use Rattle.std.proofs.lemmas.Bool.Decides.{eqb_tells, nat_tests}
use Rattle.cb_stability.specs.declared.acks.Minimum.{Minimum}
use Rattle.cb_stability.specs.Known.{Known, count, IsUnknown, IsCountOfOther}
use Rattle.cb_stability.specs.Rows.{known_of}
use Rattle.cb_stability.specs.Minima.{minimum, one_if, standing_at, IsMinimum, IsBeforeRise, minimum_with}

module _ (known : Known) (i c : ℕ) where
  -- the sender does not count, nor does who has another count
  stands_not : (n : ℕ) → (n ≡ i) ⊎ (count known n i ≢ c) → standing_at known i c (suc n) ≡ standing_at known i c n
  unfolding standing_at
  stands_not n (inl e) = grind (arith, nat_tests)
  stands_not n (inr e) = grind (arith, nat_tests)

  stands : (n : ℕ) → n ≢ i → count known n i ≡ c → standing_at known i c (suc n) ≡ standing_at known i c n + 1
  unfolding standing_at
  stands n other here = grind (arith, nat_tests)

  stands_zero : standing_at known i c 0 ≡ 0
  unfolding standing_at
  stands_zero = refl

  -- where all others are above a count nobody stands at it
  none_stand : (n : ℕ) → ((k : ℕ) → k < n → k ≢ i → c < count known k i) → standing_at known i c n ≡ 0
  none_stand zero above = stands_zero
  none_stand (suc n) above =
      let before = none_stand n (λ k below other. above k (omega arith) other) in
      elim (eqb_tells n i) as (λ _. standing_at known i c (suc n) ≡ 0) [
        | inl same ↦ stands_not n (inl same.1) ∙ before
        | inr other ↦ stands_not n (inr (λ e. absurd (omega (arith, e, above n (omega arith) other.1)))) ∙ before
      ]

  -- where some are counted, one of them is there
  someone_stands : (n : ℕ) → 0 < standing_at known i c n → (k : ℕ) × (k < n) × (k ≢ i) × (c ≡ count known k i)
  someone_stands zero some = absurd (omega (arith, stands_zero))
  someone_stands (suc n) some =
      let earlier : standing_at known i c (suc n) ≡ standing_at known i c n → (k : ℕ) × (k < suc n) × (k ≢ i) × (c ≡ count known k i) =
      λ e. let found = someone_stands n (omega (arith, e)) in (found.0, omega (arith, found.1), found.2, found.3)
      in
      elim (eqb_tells n i) [
        | inl same ↦ earlier (stands_not n (inl same.1))
        | inr other ↦ elim (eqb_tells (count known n i) c) [
          | inl here ↦ (n, omega arith, other.1, sym here.1)
          | inr apart ↦ earlier (stands_not n (inr apart.1))
        ]
      ]

  -- and who is there is counted
  is_counted : (n k : ℕ) → k < n → k ≢ i → count known k i ≡ c → 0 < standing_at known i c n
  is_counted zero k below other here = absurd (omega arith)
  is_counted (suc n) k below other here =
      elim (eqb_tells k n) as (λ _. 0 < standing_at known i c (suc n)) [
        | inl at ↦
            subst (λ (m : ℕ). 0 < standing_at known i c (suc m)) at.1
            (let next = stands k other here in omega (arith, next))
        | inr apart ↦
            let before = is_counted n k (omega (arith, below, apart.1)) other here in
            elim (eqb_tells n i) as (λ _. 0 < standing_at known i c (suc n)) [
              | inl same ↦ omega (arith, before, stands_not n (inl same.1))
              | inr beside ↦ elim (eqb_tells (count known n i) c) [
                | inl also ↦ omega (arith, stands n beside.1 also.1)
                | inr not_here ↦ omega (arith, before, stands_not n (inr not_here.1))
              ]
            ]
      ]

module _ (old new : Known) (i c : ℕ) where
  same_standing : (n : ℕ) → ((k : ℕ) → k < n → k ≢ i → count new k i ≡ count old k i) → standing_at new i c n ≡ standing_at old i c n
  same_standing zero same = stands_zero new i c ∙ sym (stands_zero old i c)
  same_standing (suc n) same =
      let before = same_standing n (λ k below other. same k (omega arith) other) in
      elim (eqb_tells n i) as (λ _. standing_at new i c (suc n) ≡ standing_at old i c (suc n)) [
        | inl at ↦ stands_not new i c n (inl at.1) ∙ before ∙ sym (stands_not old i c n (inl at.1))
        | inr other ↦ elim (eqb_tells (count old n i) c) [
          | inl here ↦
              stands new i c n other.1 (same n (omega arith) other.1 ∙ here.1)
              ∙ ap (λ s. s + 1) before
              ∙ sym (stands old i c n other.1 here.1)
          | inr apart ↦
              stands_not new i c n (inr (λ e. apart.1 (sym (same n (omega arith) other.1) ∙ e)))
              ∙ before
              ∙ sym (stands_not old i c n (inr apart.1))
        ]
      ]

  -- the count of k, another than the sender, has left c; all other counts are the same
  module _ (k : ℕ) (other : k ≢ i) (left : count new k i ≢ c) (same : (m : ℕ) → m ≢ k → count new m i ≡ count old m i) where
    one_fewer_here : standing_at old i c (suc k) ≡ standing_at new i c (suc k) + one_if (count old k i == c)
    one_fewer_here =
        let before = same_standing k (λ m below _. same m (λ e. absurd (omega (arith, e, below)))) in
        let gone = stands_not new i c k (inr left) in
        elim (eqb_tells (count old k i) c)
        as (λ _. standing_at old i c (suc k) ≡ standing_at new i c (suc k) + one_if (count old k i == c)) [
          | inl here ↦
              let one : one_if (count old k i == c) ≡ one_if true = ap one_if here.0 in
              omega (arith, stands old i c k other here.1, before, gone, one)
          | inr apart ↦
              let none : one_if (count old k i == c) ≡ one_if false = ap one_if apart.0 in
              omega (arith, stands_not old i c k (inr apart.1), before, gone, none)
        ]

    one_fewer_behind : (n d : ℕ) → n ≢ k → standing_at old i c n ≡ standing_at new i c n + d
        → standing_at old i c (suc n) ≡ standing_at new i c (suc n) + d
    one_fewer_behind n d apart before =
        elim (eqb_tells n i) as (λ _. standing_at old i c (suc n) ≡ standing_at new i c (suc n) + d) [
          | inl at ↦ omega (arith, before, stands_not new i c n (inl at.1), stands_not old i c n (inl at.1))
          | inr beside ↦ elim (eqb_tells (count old n i) c) [
            | inl here ↦ omega (arith, before, stands new i c n beside.1 (same n apart ∙ here.1), stands old i c n beside.1 here.1)
            | inr not_here ↦
                let not_now : count new n i ≢ c = λ e. not_here.1 (sym (same n apart) ∙ e) in
                omega (arith, before, stands_not new i c n (inr not_now), stands_not old i c n (inr not_here.1))
          ]
        ]

    -- so one fewer stands at c, if that was its count
    one_fewer : (n : ℕ) → k < n → standing_at old i c n ≡ standing_at new i c n + one_if (count old k i == c)
    one_fewer zero within = absurd (omega arith)
    one_fewer (suc n) within =
        elim (eqb_tells k n) as (λ _. standing_at old i c (suc n) ≡ standing_at new i c (suc n) + one_if (count old k i == c)) [
          | inl at ↦
              subst (λ (m : ℕ). standing_at old i c (suc m) ≡ standing_at new i c (suc m) + one_if (count old k i == c))
              at.1 one_fewer_here
          | inr apart ↦ one_fewer_behind n (one_if (count old k i == c)) (λ e. apart.1 (sym e)) (one_fewer n (omega (arith, within, apart.1)))
        ]

-- of the first n members
pub record IsMinimumSoFar (rows : List (List ℕ)) (i n : ℕ) (m : Minimum) : Type 0 where
  pub stable : (k : ℕ) → k < n → k ≢ i → m.least ≤ count (known_of rows) k i
  pub in_range : (k : ℕ) → k < n → k ≢ i → count (known_of rows) k i ≤ 4294967295
  pub standing : m.standing ≡ standing_at (known_of rows) i m.least n
  pub few : m.standing ≤ n
  pub some : (m.least ≡ 4294967295) ⊎ (0 < m.standing)

-- what the row that stands at a place has of the sender
pub count-row : (rows : List (List ℕ)) (k i : ℕ) (row : List ℕ) → k < length rows → row ≡ get_or rows k row
    → get_or row i 0 ≡ count (known_of rows) k i
count-row rows k i row within here = ap (λ (r : List ℕ). get_or r i 0) (here ∙ get_or_default rows k row [] within)

-- some member is not this one
another : (i : ℕ) → (k : ℕ) × (k < 2) × (k ≢ i)
another i =
    elim (cases_lt 0 i) [
      | inl later ↦ (0, omega arith, λ e. absurd (omega (arith, e, later)))
      | inr first ↦ (1, omega arith, λ e. absurd (omega (arith, e, first)))
    ]

module _ (rows : List (List ℕ)) (i : ℕ) where
  pub minimum_of_none : IsMinimumSoFar rows i 0 (minimum 4294967295 0)
  minimum_of_none = record {
    stable = λ k below _. absurd (omega arith);
    in_range = λ k below _. absurd (omega arith);
    standing = sym (stands_zero (known_of rows) i 4294967295);
    few = omega arith;
    some = inl refl;
  }

  module _ (n : ℕ) (m : Minimum) (so_far : IsMinimumSoFar rows i n m) where
    skips : n ≡ i → IsMinimumSoFar rows i (suc n) m
    skips same = record {
      stable = λ k below other. so_far.stable k (omega (arith, same, below, other)) other;
      in_range = λ k below other. so_far.in_range k (omega (arith, same, below, other)) other;
      standing = so_far.standing ∙ sym (stands_not (known_of rows) i m.least n (inl same));
      few = omega (arith, so_far.few);
      some = so_far.some;
    }

    on : suc n ≡ n + 1
    on = omega arith

    -- the sender itself is passed over
    pub minimum_skipping : n ≡ i → IsMinimumSoFar rows i (n + 1) m
    minimum_skipping same = subst (λ (j : ℕ). IsMinimumSoFar rows i j m) on (skips same)

    module _ (c : ℕ) (here : c ≡ count (known_of rows) n i) (small : c ≤ 4294967295) (other : n ≢ i) where
      in_range_more : (k : ℕ) → k < suc n → k ≢ i → count (known_of rows) k i ≤ 4294967295
      in_range_more k below beside =
          elim (eqb_tells k n) as (λ _. count (known_of rows) k i ≤ 4294967295) [
            | inl at ↦ let same = ap (λ (j : ℕ). count (known_of rows) j i) at.1 in omega (arith, same, here, small)
            | inr apart ↦ so_far.in_range k (omega (arith, below, apart.1)) beside
          ]

      stable_more : (least : ℕ) → least ≤ m.least → least ≤ c → (k : ℕ) → k < suc n → k ≢ i → least ≤ count (known_of rows) k i
      stable_more least below_least below_c k below beside =
          elim (eqb_tells k n) as (λ _. least ≤ count (known_of rows) k i) [
            | inl at ↦ let same = ap (λ (j : ℕ). count (known_of rows) j i) at.1 in omega (arith, same, here, below_c)
            | inr apart ↦ let past = so_far.stable k (omega (arith, below, apart.1)) beside in omega (arith, past, below_least)
          ]

      meets_less : c < m.least → IsMinimumSoFar rows i (suc n) (minimum c 1)
      meets_less less = record {
        stable = stable_more c (omega (arith, less)) (omega arith);
        in_range = in_range_more;
        standing =
            let none = none_stand (known_of rows) i c n (λ k below beside. let past = so_far.stable k below beside in omega (arith, past, less)) in
            omega (arith, none, stands (known_of rows) i c n other (sym here));
        few = omega arith;
        some = inr (omega arith);
      }

      meets_same : c ≡ m.least → IsMinimumSoFar rows i (suc n) (minimum c (m.standing + 1))
      meets_same same = record {
        stable = stable_more c (omega (arith, same)) (omega arith);
        in_range = in_range_more;
        standing =
            ap (λ s. s + 1) (so_far.standing ∙ ap (λ l. standing_at (known_of rows) i l n) (sym same))
            ∙ sym (stands (known_of rows) i c n other (sym here));
        few = omega (arith, so_far.few);
        some = inr (omega arith);
      }

      meets_more : m.least < c → IsMinimumSoFar rows i (suc n) m
      meets_more more = record {
        stable = stable_more m.least (omega arith) (omega (arith, more));
        in_range = in_range_more;
        standing =
            so_far.standing
            ∙ sym (stands_not (known_of rows) i m.least n (inr (λ e. absurd (omega (arith, e, here, more)))));
        few = omega (arith, so_far.few);
        some = so_far.some;
      }

      meets : IsMinimumSoFar rows i (suc n) (minimum_with m c)
      meets =
          elim (nat_lt c m.least) as (λ b. nat_lt c m.least ≡ b
          → IsMinimumSoFar rows i (suc n) (if b then minimum c 1 else (if c == m.least then minimum c (m.standing + 1) else m))) [
            | true ↦ λ e. meets_less (grind (arith, nat_tests))
            | false ↦ λ e. elim (c == m.least) as (λ b. (c == m.least) ≡ b
                → IsMinimumSoFar rows i (suc n) (if b then minimum c (m.standing + 1) else m)) [
                  | true ↦ λ same. meets_same (grind (arith, nat_tests))
                  | false ↦ λ apart. meets_more (grind (arith, nat_tests))
                ] refl
          ] refl

      -- and any other member's count is minimum_with
      pub minimum_meeting : IsMinimumSoFar rows i (n + 1) (minimum_with m c)
      minimum_meeting = subst (λ (j : ℕ). IsMinimumSoFar rows i j (minimum_with m c)) on meets

  -- of all members it is the minimum, since there are two
  module _ (n : ℕ) (m : Minimum) (two : 2 ≤ n) (all : n ≡ length rows) (so_far : IsMinimumSoFar rows i n m) where
    some_at_the_top : m.least ≡ 4294967295 → 0 < m.standing
    some_at_the_top top =
        let other = another i in
        let below : other.0 < n = omega (arith, other.1, two) in
        let past = so_far.stable other.0 below other.2 in
        let within = so_far.in_range other.0 below other.2 in
        let there = is_counted (known_of rows) i m.least n other.0 below other.2 (omega (arith, top, past, within)) in
        omega (arith, there, so_far.standing)

    pub minimum_of_all : IsMinimum rows i m
    minimum_of_all = record {
      stable = λ k below other. so_far.stable k (omega (arith, below, all)) other;
      standing = so_far.standing ∙ ap (standing_at (known_of rows) i m.least) all;
      some = elim so_far.some [
        | inl top ↦ some_at_the_top top
        | inr some ↦ some
      ];
    }

  pub minimum_reached : (m : Minimum) → IsMinimum rows i m → IsCountOfOther (known_of rows) i m.least
  minimum_reached m is = someone_stands (known_of rows) i m.least (length rows) (omega (arith, is.standing, is.some))

-- ---- what a report changes

-- of the sender i only the member k may have another count than before
module _ (rows later : List (List ℕ)) (long : length later ≡ length rows) (k i : ℕ)
    (members : (x : ℕ) → x ≢ k → count (known_of later) x i ≡ count (known_of rows) x i) (m : Minimum) (is : IsMinimum rows i m) where
  others_stay : (k ≡ i) ⊎ (count (known_of later) k i ≡ count (known_of rows) k i)
      → (x : ℕ) → x ≢ i → count (known_of later) x i ≡ count (known_of rows) x i
  others_stay nothing x other =
      elim (eqb_tells x k) as (λ _. count (known_of later) x i ≡ count (known_of rows) x i) [
        | inr apart ↦ members x apart.1
        | inl at ↦ elim nothing [
          | inl own ↦ absurd (other (at.1 ∙ own))
          | inr same ↦ rw at.1 same
        ]
      ]

  -- its minimum stays where that is the sender itself, or has no greater count
  pub minimum_stays : (k ≡ i) ⊎ (count (known_of later) k i ≡ count (known_of rows) k i) → IsMinimum later i m
  minimum_stays nothing =
      let same = others_stay nothing in
      record {
        stable = λ x below other. let past = is.stable x (omega (arith, below, long)) other in omega (arith, past, same x other);
        standing =
            is.standing
            ∙ sym (same_standing (known_of rows) (known_of later) i m.least (length rows) (λ x _ other. same x other))
            ∙ ap (standing_at (known_of later) i m.least) (sym long);
        some = is.some;
      }

  -- and elsewhere it is the minimum before who rose is taken from those at it
  pub before_rise : k < length rows → k ≢ i → count (known_of rows) k i < count (known_of later) k i
      → IsBeforeRise later i (count (known_of rows) k i) m
  before_rise of_group other rises =
      let there = is.stable k of_group other in
      record {
        stable = λ x below beside.
            elim (eqb_tells x k) as (λ _. m.least ≤ count (known_of later) x i) [
              | inl at ↦ let same = ap (λ (y : ℕ). count (known_of later) y i) at.1 in omega (arith, same, rises, there)
              | inr apart ↦ let past = is.stable x (omega (arith, below, long)) beside in omega (arith, past, members x apart.1)
            ];
        within = there;
        standing =
            is.standing
            ∙ one_fewer (known_of rows) (known_of later) i m.least k other (λ e. absurd (omega (arith, e, rises, there))) members
            (length rows) of_group
            ∙ ap (λ n. standing_at (known_of later) i m.least n + one_if (count (known_of rows) k i == m.least)) (sym long);
        some = is.some;
      }

-- ---- where nothing is known

module _ (known : Known) (i : ℕ) (zero_all : (k : ℕ) → count known k i ≡ 0) where
  all_stand : (n : ℕ) → n ≤ i → standing_at known i 0 n ≡ n
  all_stand zero before = stands_zero known i 0
  all_stand (suc n) before =
      omega (arith, stands known i 0 n (λ e. absurd (omega (arith, e, before))) (zero_all n), all_stand n (omega (arith, before)))

  all_others_stand : (n : ℕ) → i < n → standing_at known i 0 n ≡ n - 1
  all_others_stand zero within = absurd (omega arith)
  all_others_stand (suc n) within =
      elim (eqb_tells n i) as (λ _. standing_at known i 0 (suc n) ≡ suc n - 1) [
        | inl at ↦ omega (arith, stands_not known i 0 n (inl at.1), all_stand n (omega (arith, at.1)))
        | inr apart ↦ omega (arith, stands known i 0 n apart.1 (zero_all n), all_others_stand n (omega (arith, within, apart.1)), within, apart.1)
      ]

-- all others stand at 0
pub zero_minimum : (size : ℕ) (rows : List (List ℕ)) → IsUnknown size (known_of rows) → 2 ≤ size → (i : ℕ) → i < length rows
    → IsMinimum rows i (minimum 0 (size - 1))
zero_minimum size rows unknown two i within = record {
  stable = λ k _ _. omega arith;
  standing = omega (arith, all_others_stand (known_of rows) i (λ k. unknown.none k i) (length rows) within, unknown.of_size);
  some = omega (arith, two);
}
