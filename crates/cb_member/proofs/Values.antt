-- The values of a status name each member once: one look at each of them finds what a look for each member would.
use Rattle.std.proofs.Common.{◌≡◌, ◌≢◌, ℕ, zero, suc, ◌+◌, ◌-◌, ◌<◌, ◌≤◌, max, Bool, true, false, not, eqb, ltb, ◌&&◌, ◌||◌, List, [], ◌∷◌, length, set, refl, sym, ap, subst, ◌∙◌, arith, inl, inr}
use Rattle.std.specs.List.{list_all, list_any, range_with_len}
use Rattle.std.proofs.lemmas.Bool.{cases_eq, eq-eqb, le-ltb, ne_eqb, ltb-true}
use Rattle.std.proofs.lemmas.List.{get_or-set_other, get_or-set_same}
use Rattle.cb_times.specs.Order.{field}
use Rattle.cb_frames.specs.declared.frame.Change.{Change}
use Rattle.cb_frames.specs.Text.{RisesFrom}
use Rattle.cb_stability.specs.Known.{Known, Learns, count}
use Rattle.cb_history.specs.Known.{value_in}
use Rattle.cb_member.proofs.Telling.{row_more}

pub both_true : (a b : Bool) → (a && b) ≡ true → (a ≡ true) × (b ≡ true)
both_true true b h = (refl, h)
both_true false b h = absurd cc

-- ---- searches over a row of members

pub any_more : (p : ℕ → Bool) (n i : ℕ) → i < n → p i ≡ false → list_any p (range_with_len i (n - i)) ≡ list_any p (range_with_len (i + 1) (n - (i + 1)))
any_more p n i lt fails = rw (row_more n i lt, fails) refl

pub any_now : (p : ℕ → Bool) (n i : ℕ) → i < n → list_any p (range_with_len i (n - i)) ≡ (p i || list_any p (range_with_len (i + 1) (n - (i + 1))))
any_now p n i lt = rw (row_more n i lt) refl

-- where it holds of none of the next ones, the search goes on behind them
any_behind : (p : ℕ → Bool) (n i d : ℕ) → i + d ≤ n → ((k : ℕ) → i ≤ k → k < i + d → p k ≡ false)
    → list_any p (range_with_len i (n - i)) ≡ list_any p (range_with_len (i + d) (n - (i + d)))
any_behind p n i zero within fails =
    let same : i ≡ i + 0 = omega arith in
    ap (λ (j : ℕ). list_any p (range_with_len j (n - j))) same
any_behind p n i (suc d) within fails =
    let next : i + 1 + d ≡ i + suc d = omega arith in
    any_more p n i (omega (arith, within)) (fails i (omega arith) (omega arith))
    ∙ any_behind p n (i + 1) d (omega (arith, within)) (λ k from below. fails k (omega (arith, from)) (omega (arith, below)))
    ∙ ap (λ (j : ℕ). list_any p (range_with_len j (n - j))) next

any_none : (p : ℕ → Bool) (n i : ℕ) → i ≤ n → ((k : ℕ) → i ≤ k → k < n → p k ≡ false) → list_any p (range_with_len i (n - i)) ≡ false
any_none p n i within fails =
    let end : i + (n - i) ≡ n = omega (arith, within) in
    let none : n - (i + (n - i)) ≡ 0 = omega (arith, within) in
    any_behind p n i (n - i) (omega (arith, within)) (λ k from below. fails k from (omega (arith, below, end)))
    ∙ ap (λ (m : ℕ). list_any p (range_with_len (i + (n - i)) m)) none

-- ---- values that rise

-- of a member below the first value nothing is said
pub nothing_said : (least k : ℕ) (values : List Change) → RisesFrom least values → k < least → value_in values k ≡ 0
nothing_said least k [] rises below = refl
nothing_said least k (d ∷ values) rises below =
    let other : ¬ (d.field ≡ k) = λ e. omega (arith, e, below, rises.0) in
    rw (ne_eqb d.field k other) (nothing_said (d.field + 1) k values rises.1 (omega (arith, below, rises.0)))

abbrev pub tells_more : ℕ → List ℕ → List Change → ℕ → Bool
tells_more me heard values k = not (eqb k me) && ltb (field heard k) (value_in values k)

abbrev pub is_more : ℕ → List ℕ → Change → Bool
is_more me heard d = not (eqb d.field me) && ltb (field heard d.field) d.amount

tells_nothing : (me : ℕ) (heard : List ℕ) (values : List Change) (k : ℕ) → value_in values k ≡ 0 → tells_more me heard values k ≡ false
tells_nothing me heard values k none = ap (λ (n : ℕ). not (eqb k me) && ltb (field heard k) n) none ∙ ap (λ (b : Bool). not (eqb k me) && b) (le-ltb (field heard k) 0 (omega arith)) ∙ by_cases (not (eqb k me))
  where
    by_cases : (b : Bool) → (b && false) ≡ false
    by_cases true = refl
    by_cases false = refl

own_value : (d : Change) (values : List Change) → value_in (d ∷ values) d.field ≡ d.amount
own_value d values = rw (eq-eqb d.field d.field refl) refl

behind_value : (d : Change) (values : List Change) (k : ℕ) → d.field < k → value_in (d ∷ values) k ≡ value_in values k
behind_value d values k below = rw (ne_eqb d.field k (λ e. omega (arith, e, below))) refl

any_same : (p q : ℕ → Bool) (a n : ℕ) → ((k : ℕ) → a ≤ k → p k ≡ q k) → list_any p (range_with_len a n) ≡ list_any q (range_with_len a n)
any_same p q a zero same = refl
any_same p q a (suc n) same =
    ap (λ (b : Bool). b || list_any p (range_with_len (a + 1) n)) (same a (omega arith))
    ∙ ap (λ (b : Bool). q a || b) (any_same p q (a + 1) n (λ k from. same k (omega (arith, from))))

told_from : (me size least : ℕ) (heard : List ℕ) (values : List Change) → least ≤ size → RisesFrom least values → list_all (λ d. ltb d.field size) values ≡ true
    → list_any (tells_more me heard values) (range_with_len least (size - least)) ≡ list_any (is_more me heard) values
told_from me size least heard [] within rises small = any_none (tells_more me heard []) size least within (λ k from below. tells_nothing me heard [] k refl)
told_from me size least heard (d ∷ values) within rises small =
    let parts = both_true (ltb d.field size) (list_all (λ (v : Change). ltb v.field size) values) small in
    let below : d.field < size = ltb-true d.field size parts.0 in
    let p = tells_more me heard (d ∷ values) in
    let to : least + (d.field - least) ≡ d.field = omega (arith, rises.0) in
    let skipped : (k : ℕ) → least ≤ k → k < least + (d.field - least) → p k ≡ false =
    (λ k from upto. tells_nothing me heard (d ∷ values) k (nothing_said d.field k (d ∷ values) (omega arith, rises.1) (omega (arith, upto, to)))) in
    any_behind p size least (d.field - least) (omega (arith, to, below)) skipped
    ∙ ap (λ (j : ℕ). list_any p (range_with_len j (size - j))) to
    ∙ any_now p size d.field below
    ∙ ap (λ (n : ℕ). not (eqb d.field me) && ltb (field heard d.field) n || list_any p (range_with_len (d.field + 1) (size - (d.field + 1)))) (own_value d values)
    ∙ ap (λ (b : Bool). is_more me heard d || b)
    (any_same p (tells_more me heard values) (d.field + 1) (size - (d.field + 1)) (λ k from. ap (λ (n : ℕ). not (eqb k me) && ltb (field heard k) n) (behind_value d values k (omega (arith, from))))
    ∙ told_from me size (d.field + 1) heard values (omega (arith, below)) rises.1 parts.1)

told_by_values : (me size : ℕ) (heard : List ℕ) (values : List Change) → RisesFrom 0 values → list_all (λ d. ltb d.field size) values ≡ true
    → list_any (tells_more me heard values) (range_with_len 0 size) ≡ list_any (is_more me heard) values
told_by_values me size heard values rises small =
    let all : size ≡ size - 0 = omega arith in
    ap (λ (n : ℕ). list_any (tells_more me heard values) (range_with_len 0 n)) all ∙ told_from me size 0 heard values (omega arith) rises small

-- two searches are one for what either looks for
any_of_both : (p q : Change → Bool) (ds : List Change) → (list_any p ds || list_any q ds) ≡ list_any (λ d. p d || q d) ds
any_of_both p q [] = refl
any_of_both p q (d ∷ ds) = by_cases (p d) (q d) (list_any p ds) (list_any q ds) ∙ ap (λ (b : Bool). (p d || q d) || b) (any_of_both p q ds)
  where
    by_cases : (a b c e : Bool) → ((a || c) || (b || e)) ≡ ((a || b) || (c || e))
    by_cases true b c e = refl
    by_cases false true true e = refl
    by_cases false true false e = refl
    by_cases false false c e = refl

pub told_by_both : (me k size : ℕ) (heard row : List ℕ) (values : List Change) → RisesFrom 0 values → list_all (λ d. ltb d.field size) values ≡ true
    → (list_any (tells_more me heard values) (range_with_len 0 size) || list_any (tells_more k row values) (range_with_len 0 size)) ≡ list_any (λ d. is_more me heard d || is_more k row d) values
told_by_both me k size heard row values rises small =
    ap (λ (b : Bool). b || list_any (tells_more k row values) (range_with_len 0 size)) (told_by_values me size heard values rises small)
    ∙ ap (λ (b : Bool). list_any (is_more me heard) values || b) (told_by_values k size row values rises small)
    ∙ any_of_both (is_more me heard) (is_more k row) values

-- ---- the search over the values, on the way

-- the first value is looked at, and the search goes on behind it
pub any_goes_on : (p : Change → Bool) (d : Change) (rest : List Change) (so_far now all : Bool) → now ≡ (so_far || p d) → (so_far || list_any p (d ∷ rest)) ≡ all → (now || list_any p rest) ≡ all
any_goes_on p d rest true now all is h = ap (λ (b : Bool). b || list_any p rest) is ∙ h
any_goes_on p d rest false now all is h = ap (λ (b : Bool). b || list_any p rest) is ∙ h

pub any_ends : (p : Change → Bool) (so_far all : Bool) → (so_far || list_any p []) ≡ all → so_far ≡ all
any_ends p true all h = h
any_ends p false all h = h

-- ---- the value of one member, on the way

-- so much was found of member k before the rest of all values: nothing, where the rest may still name it
pub record IsFound (k found : ℕ) (rest all : List Change) : Type 0 where
  pub least : ℕ
  pub rising : RisesFrom least rest
  pub none_before : least ≤ k → found ≡ 0
  pub value : max found (value_in rest k) ≡ value_in all k

pub found_here : (k found : ℕ) (d : Change) (rest all : List Change) → d.field ≡ k → IsFound k found (d ∷ rest) all → IsFound k d.amount rest all
found_here k found d rest all own f =
    let none : value_in rest k ≡ 0 = nothing_said (d.field + 1) k rest f.rising.1 (omega (arith, own)) in
    let said : value_in (d ∷ rest) k ≡ d.amount = ap (value_in (d ∷ rest)) (sym own) ∙ own_value d rest in
    let before : found ≡ 0 = f.none_before (omega (arith, own, f.rising.0)) in
    record { least = d.field + 1; rising = f.rising.1; none_before = λ lt. omega (arith, lt, own); value = omega (arith, none, said, before, f.value) }

pub found_elsewhere : (k found : ℕ) (d : Change) (rest all : List Change) → d.field ≢ k → IsFound k found (d ∷ rest) all → IsFound k found rest all
found_elsewhere k found d rest all other f =
    let said : value_in (d ∷ rest) k ≡ value_in rest k = rw (ne_eqb d.field k other) refl in
    record {
      least = d.field + 1;
      rising = f.rising.1;
      none_before = λ lt. f.none_before (omega (arith, lt, f.rising.0));
      value = ap (max found) (sym said) ∙ f.value;
    }

pub found_at_the_end : (k found : ℕ) (all : List Change) → IsFound k found [] all → found ≡ value_in all k
found_at_the_end k found all f = omega (arith, f.value)

-- ---- one value more is kept

-- the field of the first value was raised to it, and what is left gives the rest
pub raised_by_one : (d : Change) (values : List Change) (old new : List ℕ) (k : ℕ) → RisesFrom (d.field + 1) values → d.field < length old → new ≡ set old d.field (max (field old d.field) d.amount)
    → max (field new k) (value_in values k) ≡ max (field old k) (value_in (d ∷ values) k)
raised_by_one d values old new k rises within is = elim (cases_eq d.field k) [
  | inl own ↦
      let none : value_in values k ≡ 0 = nothing_said (d.field + 1) k values rises (omega (arith, own)) in
      let now : field new k ≡ max (field old k) d.amount =
      ap (λ (ns : List ℕ). field ns k) is ∙ ap (field (set old d.field (max (field old d.field) d.amount))) (sym own)
      ∙ get_or-set_same old d.field (max (field old d.field) d.amount) 0 within ∙ ap (λ (j : ℕ). max (field old j) d.amount) own in
      let said : value_in (d ∷ values) k ≡ d.amount = ap (value_in (d ∷ values)) (sym own) ∙ own_value d values in
      omega (arith, none, now, said)
  | inr other ↦
      let now : field new k ≡ field old k = ap (λ (ns : List ℕ). field ns k) is ∙ get_or-set_other old d.field k (max (field old d.field) d.amount) 0 (λ e. other (sym e)) in
      let said : value_in (d ∷ values) k ≡ value_in values k = rw (ne_eqb d.field k other) refl in
      ap (λ (n : ℕ). max n (value_in values k)) now ∙ ap (max (field old k)) (sym said)
]

-- the first value was learnt of member k, and what is left gives the rest
pub learnt_by_one : (d : Change) (values : List Change) (k : ℕ) (old new : Known) (i : ℕ) → RisesFrom (d.field + 1) values → Learns old new k d.field d.amount
    → max (count new k i) (value_in values i) ≡ max (count old k i) (value_in (d ∷ values) i)
learnt_by_one d values k old new i rises l = elim (cases_eq d.field i) [
  | inl own ↦
      let none : value_in values i ≡ 0 = nothing_said (d.field + 1) i values rises (omega (arith, own)) in
      let now : count new k i ≡ max (count old k i) d.amount = subst (λ (j : ℕ). count new k j ≡ max (count old k j) d.amount) own l.learned in
      let said : value_in (d ∷ values) i ≡ d.amount = ap (value_in (d ∷ values)) (sym own) ∙ own_value d values in
      omega (arith, none, now, said)
  | inr other ↦
      let now : count new k i ≡ count old k i = l.senders k i (λ e. other (sym e)) in
      let said : value_in (d ∷ values) i ≡ value_in values i = rw (ne_eqb d.field i other) refl in
      ap (λ (n : ℕ). max n (value_in values i)) now ∙ ap (max (count old k i)) (sym said)
]
