-- Units by rising numbers, and which of them a number finds.
use Rattle.std.proofs.Common.{◌≡◌, ◌≢◌, ℕ, zero, suc, ◌+◌, ◌<◌, ◌≤◌, ◌-◌, ltb, leb, Bool, true, false, cond, T, List, [], ◌∷◌, ◌++◌, length, take, drop, sym, ◌∙◌, ap, subst, arith, Some, None, Ok, Err, Result, get_or, refl, inl, inr, All}
use Rattle.std.specs.Prelude.{Option, MatchOption, insert}
use Rattle.std.specs.declared.cmp.Ordering.{Ordering}
use Rattle.std.specs.declared.cmp.Ordering.TheVariants.{Less, Equal, Greater}
use Rattle.std.specs.List.Sorted.{IsBinarySearchResult, IsSearchInRange}
use Rattle.std.specs.Result.{result_err}
use Rattle.std.specs.Ordering.{nat_cmp, eq_by_cmp, ordering_index}
use Rattle.std.specs.FinMap.{find, is_sorted}
use Rattle.std.specs.FinMap.Entries.{below_all}
use Rattle.std.proofs.lemmas.Bool.{cases_lt}
use Rattle.std.proofs.lemmas.Bool.Decides.{nat_tests}
use Rattle.std.proofs.lemmas.List.{length-take, length-drop, take-append-drop, get_or-take, get_or-drop}
use Rattle.std.proofs.lemmas.List.Elements.{All-nil, All-head, All-tail, All-cons, All-weaker, All-append, All-take, All-drop}
use Rattle.cb_frames.specs.declared.frame.Unit.{Unit as Carrying}
use Rattle.cb_frames.specs.Fields.{CastFields, unit_fields, payloads_of, first_number}
use Rattle.cb_times.proofs.Entries.{equal_numbers, other_numbers, numbers_equal, less_number, both, both_hold}
use Rattle.cb_gaps.specs.Buffer.{Covers}
use Rattle.cb_gaps.specs.Lists.{first_of, last_of, entries_of, Rise, Below, HasNumber, side_of, IsPlaceFor}
use Rattle.cb_gaps.specs.Ranges.{HasOne}
use Rattle.cb_gaps.proofs.Spans.{counted}

-- what a number finds
abbrev pub found : ℕ → List Carrying → Option CastFields
found number units = find nat_cmp number (entries_of units)

below_rising : (number before : ℕ) (units : List Carrying) → Rise before units → number ≤ before → T (below_all nat_cmp number (entries_of units))
below_rising number before [] rise h = tt
below_rising number before (c ∷ units) rise h =
    both _ _ (less_number number (first_of c) (omega (arith, rise.0, h)))
    (below_rising number (last_of c) units rise.2 (omega (arith, rise.0, rise.1, h)))

pub sorted : (before : ℕ) (units : List Carrying) → Rise before units → T (is_sorted nat_cmp (entries_of units))
sorted before [] rise = tt
sorted before (c ∷ units) rise =
    both_hold _ _ (below_rising (first_of c) (last_of c) units rise.2 rise.1) (sorted (last_of c) units rise.2)

pub rise_from : (before lower : ℕ) (units : List Carrying) → lower ≤ before → Rise before units → Rise lower units
rise_from before lower [] h rise = tt
rise_from before lower (c ∷ units) h rise = (omega (arith, h, rise.0), rise.1, rise.2)

-- all begin above the number, and none of them is empty
pub rise_above : (before : ℕ) (units : List Carrying) → Rise before units → All (λ c. before < first_of c) units
rise_above before [] rise = All-nil (λ c. before < first_of c)
rise_above before (c ∷ units) rise =
    All-cons (λ x. before < first_of x) c units rise.0
    (All-weaker (λ x. last_of c < first_of x) (λ x. before < first_of x) (λ x h. omega (arith, h, rise.0, rise.1)) units (rise_above (last_of c) units rise.2))

pub rise_filled : (before : ℕ) (units : List Carrying) → Rise before units → All (λ c. first_of c ≤ last_of c) units
rise_filled before [] rise = All-nil (λ c. first_of c ≤ last_of c)
rise_filled before (c ∷ units) rise = All-cons (λ x. first_of x ≤ last_of x) c units rise.1 (rise_filled (last_of c) units rise.2)

-- nothing up to where the numbers begin
pub found-before : (number before : ℕ) (units : List Carrying) → Rise before units → number ≤ before → found number units ≡ None
found-before number before [] rise h = refl
found-before number before (c ∷ units) rise h =
    let differs : number ≢ first_of c = λ e. absurd (omega (arith, e, h, rise.0)) in
    rw (other_numbers number (first_of c) differs) (found-before number (last_of c) units rise.2 (omega (arith, h, rise.0, rise.1)))

pub none_before : (number before : ℕ) (units : List Carrying) → Rise before units → number ≤ before → ¬ HasNumber units number
none_before number before [] rise h has = has
none_before number before (c ∷ units) rise h (inl covers) = omega (arith, h, rise.0, covers.0)
none_before number before (c ∷ units) rise h (inr later) =
    none_before number (last_of c) units rise.2 (omega (arith, h, rise.0, rise.1)) later

-- what is found is a cast of the list, of that number
pub found_cast : (P : Carrying → Type 0) (number : ℕ) (units : List Carrying) (fields : CastFields) → All P units → found number units ≡ Some fields
    → (c : Carrying) × (first_of c ≡ number) × (unit_fields c ≡ fields) × P c
found_cast P number [] fields all h = cc
found_cast P number (c ∷ units) fields all h =
    elim (eq_by_cmp nat_cmp number (first_of c))
    as (λ b. eq_by_cmp nat_cmp number (first_of c) ≡ b → cond b (Some (unit_fields c)) (found number units) ≡ Some fields
    → (x : Carrying) × (first_of x ≡ number) × (unit_fields x ≡ fields) × P x) [
      | true ↦ λ e here. (c, sym (numbers_equal number (first_of c) e), cc, All-head P c units all)
      | false ↦ λ e later. found_cast P number units fields (All-tail P c units all) later
    ] refl h

pub found_after : (number before : ℕ) (units : List Carrying) (fields : CastFields) → Rise before units → found number units ≡ Some fields → before < number
found_after number before units fields rise h =
    elim (cases_lt before number) as (λ _. before < number) [
      | inl after ↦ after
      | inr upto ↦ let none = found-before number before units rise upto in cc
    ]

-- a cast that is found covers its numbers
pub found_covers : (key number : ℕ) (units : List Carrying) (fields : CastFields) → found key units ≡ Some fields → Covers fields number → HasNumber units number
found_covers key number [] fields h covers = cc
found_covers key number (c ∷ units) fields h covers =
    elim (eq_by_cmp nat_cmp key (first_of c)) as (λ b. cond b (Some (unit_fields c)) (found key units) ≡ Some fields → HasNumber (c ∷ units) number) [
      | true ↦ λ here.
          let same : unit_fields c ≡ fields = cc in
          inl (subst (λ (f : CastFields). Covers f number) (sym same) covers)
      | false ↦ λ later. inr (found_covers key number units fields later covers)
    ] h

-- and a cast that covers a number is found at its first one
pub covering_found : (number before : ℕ) (units : List Carrying) → Rise before units → HasNumber units number
    → (fields : CastFields) × (found (first_number fields) units ≡ Some fields) × Covers fields number
covering_found number before [] rise has = absurd has
covering_found number before (c ∷ units) rise (inl covers) =
    (unit_fields c, rw (equal_numbers (first_of c) (first_of c) refl) refl, covers)
covering_found number before (c ∷ units) rise (inr later) =
    let r = covering_found number (last_of c) units rise.2 later in
    let above : last_of c < first_number r.0 = found_after (first_number r.0) (last_of c) units r.0 rise.2 r.1 in
    let differs : first_number r.0 ≢ first_of c = λ e. absurd (omega (arith, e, above, rise.1)) in
    (r.0, rw (other_numbers (first_number r.0) (first_of c) differs) r.1, r.2)

-- no two units cover one number
pub found_apart : (number before : ℕ) (units : List Carrying) (a b : CastFields) → Rise before units → found (first_number a) units ≡ Some a
    → found (first_number b) units ≡ Some b → Covers a number → Covers b number → a ≡ b
found_apart number before [] a b rise at_a at_b covers_a covers_b = cc
found_apart number before (c ∷ units) a b rise at_a at_b covers_a covers_b =
    which (λ is_a is_b. found_apart number (last_of c) units a b rise.2 is_a is_b covers_a covers_b)
    (eq_by_cmp nat_cmp (first_number a) (first_of c)) (eq_by_cmp nat_cmp (first_number b) (first_of c)) at_a at_b
  where
    -- the first cast ends below the others
    apart : (x y : CastFields) → unit_fields c ≡ x → found (first_number y) units ≡ Some y → Covers x number → Covers y number → ⊥
    apart x y here later covers_x covers_y =
        let above : last_of c < first_number y = found_after (first_number y) (last_of c) units y rise.2 later in
        let within : Covers (unit_fields c) number = subst (λ (f : CastFields). Covers f number) (sym here) covers_x in
        omega (arith, above, within.1, covers_y.0)

    which : (found (first_number a) units ≡ Some a → found (first_number b) units ≡ Some b → a ≡ b)
        → (p q : Bool) → cond p (Some (unit_fields c)) (found (first_number a) units) ≡ Some a
        → cond q (Some (unit_fields c)) (found (first_number b) units) ≡ Some b → a ≡ b
    which behind true true is_a is_b = cc
    which behind true false is_a is_b = absurd (apart a b (let here : unit_fields c ≡ a = cc in here) is_b covers_a covers_b)
    which behind false true is_a is_b = absurd (apart b a (let here : unit_fields c ≡ b = cc in here) is_a covers_b covers_a)
    which behind false false is_a is_b = behind is_a is_b

-- what is true of all units is of the one that covers a number
pub covering_cast : (P : Carrying → Type 0) (number : ℕ) (units : List Carrying) → All P units → HasNumber units number
    → (c : Carrying) × Covers (unit_fields c) number × P c
covering_cast P number [] all has = absurd has
covering_cast P number (c ∷ units) all (inl covers) = (c, covers, All-head P c units all)
covering_cast P number (c ∷ units) all (inr later) = covering_cast P number units (All-tail P c units all) later

-- a cast that stands in the list
pub covers_at : (number : ℕ) (units : List Carrying) (k : ℕ) (d : Carrying) → k < length units → Covers (unit_fields (get_or units k d)) number → HasNumber units number
covers_at number [] k d within covers = absurd (omega (arith, within))
covers_at number (c ∷ units) zero d within covers = inl covers
covers_at number (c ∷ units) (suc k) d within covers = inr (covers_at number units k d (omega (arith, within)) covers)

-- a later unit begins above where an earlier one ends
pub rises : (before : ℕ) (units : List Carrying) (i j : ℕ) (d : Carrying) → Rise before units → i < j → j < length units
    → last_of (get_or units i d) < first_of (get_or units j d)
rises before [] i j d rise h within = absurd (omega arith)
rises before (c ∷ units) i zero d rise h within = absurd (omega arith)
rises before (c ∷ units) zero (suc j) d rise h within = rise_above (last_of c) units rise.2 j d (omega arith)
rises before (c ∷ units) (suc i) (suc j) d rise h within = rises (last_of c) units i j d rise.2 (omega arith) (omega arith)

-- the list is short where its numbers are few
pub few : (before bound : ℕ) (units : List Carrying) → Rise before units → Below bound units → before < bound → before + length units < bound
few before bound [] rise below h = omega (arith, h)
few before bound (c ∷ units) rise below h =
    let rest = few (last_of c) bound units rise.2 (All-tail (λ x. last_of x < bound) c units below) (All-head (λ x. last_of x < bound) c units below) in
    omega (arith, rise.0, rise.1, rest)

-- no cast of the list covers this number
lacks : (number : ℕ) (units : List Carrying) → All (λ c. ¬ Covers (unit_fields c) number) units → ¬ HasNumber units number
lacks number [] none has = has
lacks number (c ∷ units) none (inl covers) = All-head (λ x. ¬ Covers (unit_fields x) number) c units none covers
lacks number (c ∷ units) none (inr later) = lacks number units (All-tail (λ x. ¬ Covers (unit_fields x) number) c units none) later

pub lacks_at_place : (first last place : ℕ) (units : List Carrying) → IsPlaceFor first last units place
    → (number : ℕ) → first ≤ number → number ≤ last → ¬ HasNumber units number
lacks_at_place first last place units is number from upto =
    lacks number units
    (subst (λ (l : List Carrying). All (λ c. ¬ Covers (unit_fields c) number) l) (take-append-drop place units)
    (All-append (λ c. ¬ Covers (unit_fields c) number) (take place units) (drop place units)
    (λ k d below covers. omega (arith, covers.1, from, is.lesser k d below))
    (λ k d below covers. omega (arith, covers.0, upto, is.greater k d below))))

-- a unit put between those of lesser and those of greater numbers
rise_between : (before : ℕ) (front back : List Carrying) (c : Carrying) → Rise before (front ++ back) → before < first_of c → first_of c ≤ last_of c
    → All (λ x. last_of x < first_of c) front → All (λ x. last_of c < first_of x) back → Rise before (front ++ c ∷ back)
rise_between before [] [] c rise h filled lesser greater = (h, filled, tt)
rise_between before [] (x ∷ back) c rise h filled lesser greater =
    (h, filled, (All-head (λ y. last_of c < first_of y) x back greater, rise.1, rise.2))
rise_between before (x ∷ front) back c rise h filled lesser greater = (
  rise.0,
  rise.1,
  rise_between (last_of x) front back c rise.2 (All-head (λ y. last_of y < first_of c) x front lesser) filled
      (All-tail (λ y. last_of y < first_of c) x front lesser) greater,
)

first_of_two : {A : Type 0} (a b : Bool) (x y z : A) → ¬ ((a ≡ true) × (b ≡ true)) → cond a x (cond b y z) ≡ cond b y (cond a x z)
first_of_two true true x y z apart = absurd (apart (refl, refl))
first_of_two true false x y z apart = refl
first_of_two false b x y z apart = refl

found-between : (number : ℕ) (front back : List Carrying) (c : Carrying) → All (λ x. first_of x ≤ last_of x) front → All (λ x. last_of x < first_of c) front
    → found number (front ++ c ∷ back) ≡ cond (eq_by_cmp nat_cmp number (first_of c)) (Some (unit_fields c)) (found number (front ++ back))
found-between number [] back c filled lesser = refl
found-between number (x ∷ front) back c filled lesser =
    let apart : ¬ ((eq_by_cmp nat_cmp number (first_of x) ≡ true) × (eq_by_cmp nat_cmp number (first_of c) ≡ true)) =
    λ e. omega (
      arith,
      numbers_equal number (first_of x) e.0,
      numbers_equal number (first_of c) e.1,
      All-head (λ y. first_of y ≤ last_of y) x front filled,
      All-head (λ y. last_of y < first_of c) x front lesser,
    ) in
    ap (cond (eq_by_cmp nat_cmp number (first_of x)) (Some (unit_fields x)))
    (found-between number front back c (All-tail (λ y. first_of y ≤ last_of y) x front filled) (All-tail (λ y. last_of y < first_of c) x front lesser))
    ∙ first_of_two (eq_by_cmp nat_cmp number (first_of x)) (eq_by_cmp nat_cmp number (first_of c)) _ _ _ apart

module _ (before : ℕ) (units : List Carrying) (rise : Rise before units) (place : ℕ) (c : Carrying) (is : IsPlaceFor (first_of c) (last_of c) units place) where
  pub rise_insert : before < first_of c → first_of c ≤ last_of c → Rise before (insert units place c)
  rise_insert h filled =
      rise_between before (take place units) (drop place units) c
      (subst (λ (l : List Carrying). Rise before l) (sym (take-append-drop place units)) rise) h filled is.lesser is.greater

  pub found-insert : (number : ℕ)
      → found number (insert units place c) ≡ cond (eq_by_cmp nat_cmp number (first_of c)) (Some (unit_fields c)) (found number units)
  found-insert number =
      found-between number (take place units) (drop place units) c
      (All-take (λ x. first_of x ≤ last_of x) place units (rise_filled before units rise)) is.lesser
      ∙ ap (λ l. cond (eq_by_cmp nat_cmp number (first_of c)) (Some (unit_fields c)) (found number l)) (take-append-drop place units)

  pub all_insert : (P : Carrying → Type 0) → All P units → P c → All P (insert units place c)
  all_insert P all h =
      All-append P (take place units) (c ∷ drop place units) (All-take P place units all)
      (All-cons P c (drop place units) h (All-drop P place units all))

-- ---- what a binary search by the numbers first to last answers

-- the side of a unit that begins here and has so many messages
abbrev side : ℕ → ℕ → ℕ → ℕ → Ordering
side begins count first last = cond (ltb last begins) Greater (cond (leb count (first - begins)) Less Equal)

side-rises : (a n b m first last : ℕ) → 1 ≤ n → 1 ≤ m → a + n ≤ b → ordering_index (side a n first last) ≤ ordering_index (side b m first last)
side-rises a n b m first last some others apart = grind (arith, nat_tests)

side-less : (a n first last : ℕ) → 1 ≤ n → side a n first last ≡ Less → a + n ≤ first
side-less a n first last some e = grind (arith, nat_tests)

side-greater : (a n first last : ℕ) → side a n first last ≡ Greater → last < a
side-greater a n first last e = grind (arith, nat_tests)

side-equal : (a n first last : ℕ) → side a n first last ≡ Equal → (a ≤ last) × (first < a + n)
side-equal a n first last e = (grind (arith, nat_tests), grind (arith, nat_tests))

-- where some unit has one of the numbers one is found, and else the place between those on either side
module _ (first last : ℕ) (units : List Carrying) (rise : Rise 0 units) where
  ends_at : (k : ℕ) (d : Carrying) → k < length units
      → length (payloads_of (unit_fields (get_or units k d)).load) + first_of (get_or units k d) ≡ last_of (get_or units k d) + 1
  ends_at k d below = counted (unit_fields (get_or units k d)) (rise_above 0 units rise k d below) (rise_filled 0 units rise k d below)

  some_at : (k : ℕ) (d : Carrying) → k < length units → 1 ≤ length (payloads_of (unit_fields (get_or units k d)).load)
  some_at k d below = omega (arith, ends_at k d below, rise_filled 0 units rise k d below)

  sides_rise : (i j : ℕ) (d : Carrying) → i ≤ j → j < length units
      → ordering_index (side_of (unit_fields (get_or units i d)) first last) ≤ ordering_index (side_of (unit_fields (get_or units j d)) first last)
  sides_rise i j d order below =
      elim (cases_lt i j)
      as (λ _. ordering_index (side_of (unit_fields (get_or units i d)) first last) ≤ ordering_index (side_of (unit_fields (get_or units j d)) first last)) [
        | inl less ↦
            let within : i < length units = omega (arith, order, below) in
            side-rises (first_of (get_or units i d)) _ (first_of (get_or units j d)) _ first last (some_at i d within) (some_at j d below)
            (omega (arith, ends_at i d within, rises 0 units i j d rise less below))
        | inr same ↦
            let e : i ≡ j = omega (arith, order, same) in
            omega (arith, ap (λ k. ordering_index (side_of (unit_fields (get_or units k d)) first last)) e)
      ]

  -- a unit that has one of the numbers covers the first of them, or begins among them
  meets : (k : ℕ) (d : Carrying) → k < length units → side_of (unit_fields (get_or units k d)) first last ≡ Equal → first ≤ last
      → HasOne (HasNumber units) first last
  meets k d below e order =
      let u = get_or units k d in
      let both = side-equal (first_of u) (length (payloads_of (unit_fields u).load)) first last e in
      let ends = ends_at k d below in
      elim (cases_lt first (first_of u)) as (λ _. HasOne (HasNumber units) first last) [
        | inl later ↦ record {
          number = first_of u;
          from = omega (arith, later);
          upto = both.0;
          is = covers_at (first_of u) units k d below (omega arith, rise_filled 0 units rise k d below);
        }
        | inr begun ↦ record {
          number = first;
          from = omega arith;
          upto = order;
          is = covers_at first units k d below (begun, omega (arith, both.1, ends));
        }
      ]

pub searched : (first last n : ℕ) (units : List Carrying) (r : Result ℕ ℕ) → Rise 0 units → n ≡ length units → IsSearchInRange r n
    → IsBinarySearchResult (λ (u : Carrying). side_of (unit_fields u) first last) units r
    → MatchOption (result_err r) (first ≤ last → HasOne (HasNumber units) first last) (IsPlaceFor first last units)
searched first last n [] (Ok i) rise len within at = absurd (omega (arith, len, within))
searched first last n (c ∷ units) (Ok i) rise len within at =
    let inside : i < length (c ∷ units) = omega (arith, len, within) in
    meets first last (c ∷ units) rise i c inside (at c)
searched first last n units (Err place) rise len within at =
    let inside : place ≤ length units = omega (arith, len, within) in
    let parts = at (λ i j d h below. sides_rise first last units rise i j d h below) in
    record {
      within = inside;
      lesser = λ k d below.
          let before : k < place = below_take place k units below in
          let inner : k < length units = omega (arith, before, inside) in
          let less : first_of (get_or units k d) + length (payloads_of (unit_fields (get_or units k d)).load) ≤ first =
          side-less (first_of (get_or units k d)) _ first last (some_at first last units rise k d inner) (parts.0 k d (omega arith) before) in
          subst (λ (x : Carrying). last_of x < first) (sym (get_or-take place units k d before))
          (omega (arith, less, ends_at first last units rise k d inner));
      greater = λ k d below.
          subst (λ (x : Carrying). last < first_of x) (sym (get_or-drop place units k d))
          (side-greater (first_of (get_or units (place + k) d)) _ first last (parts.1 (place + k) d (omega arith) (below_drop place k units inside below)));
    }
  where
    below_take : (p k : ℕ) (l : List Carrying) → k < length (take p l) → k < p
    below_take p k l h = omega (arith, h, length-take p l)

    below_drop : (p k : ℕ) (l : List Carrying) → p ≤ length l → k < length (drop p l) → p + k < length l
    below_drop p k l h below = omega (arith, h, below, length-drop p l)
