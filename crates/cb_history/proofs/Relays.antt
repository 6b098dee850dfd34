-- The casts of a sender by their numbers, and the frames of another member that are kept.
use Rattle.std.proofs.Common.{◌≡◌, ◌≢◌, ℕ, zero, suc, ◌+◌, ◌-◌, ◌<◌, ◌≤◌, Bool, true, false, ◌&&◌, cond, eqb, leb, ltb, List, [], ◌∷◌, ◌++◌, length, map, drop, take, refl, sym, ap, subst, ◌∙◌, arith, inl, inr, ◌⊎◌}
use Rattle.std.specs.List.{AllByRecursion, filter, flat_map, range_with_len, prefix_len}
use Rattle.std.proofs.lemmas.Bool.{cond_both, cases_eq, cases_lt, eq-eqb, eqb-true, lt-ltb, le-ltb, ltb-true, ltb-false, le-leb, lt-leb, leb-true, both_ways, and_parts, and_from, and_right, false_from_ne_true}
use Rattle.std.proofs.lemmas.List.{append-nil, length-append, length-map, drop-drop, drop_at, drop-map}
use Rattle.std.proofs.lemmas.List.Elements.{filter-append}
use Rattle.cb_frames.specs.declared.frame.TheConstants.{MOST_FRAMES}
use Rattle.cb_frames.specs.Fields.{IsSome, CastFields, messages_of, first_number, last_number}
use Rattle.cb_frames.proofs.Carried.{each_number_is_carried, first_is_carried, last_is_carried, carries_some}
use Rattle.cb_diffs.specs.Expansion.{CarrySome}
use Rattle.cb_stability.specs.declared.ring.Spanned.{Spanned}
use Rattle.cb_stability.specs.Sent.{is_in_ranges}
use Rattle.cb_stability.specs.Relays.{Relayed, placed, with_place, behind_stable, is_handed_on}
use Rattle.cb_stability.specs.Relays as relays
use Rattle.cb_history.specs.Group.{Identity}
use Rattle.cb_history.specs.Facts.{Fact, OwnCast, CastReceived, StatusReceived, OwnStatus, casts_in, messages_in, numbers_between, is_there}
use Rattle.cb_history.specs.View.{is_among, view}
use Rattle.cb_history.specs.Known.{stable_of}
use Rattle.cb_history.specs.Helping.{casts_at, casts_between, delivered_casts, last_of, handed_on}
use Rattle.cb_history.specs.Answers.{delivered, own_casts, is_asked_for}
use Rattle.cb_history.specs.LegalFacts.{AreFactsOf}
use Rattle.cb_history.specs.NameLaws.{NamesDiffer}
use Rattle.cb_history.specs.StabilityLaws.{spanned_frame, sent_to}
use Rattle.cb_history.specs.RelayLaws.{IsForgotten, KeepsRelays, NothingIsRelayed, IsNoCastOf, RelaysStay, PutIsRelayed, TrimIsRelayed, RelaysAreHandedOn}
use Rattle.cb_history.proofs.Views.{IsIn, casts_in-append, filter_in}
use Rattle.cb_history.proofs.Loads.{some_at}
use Rattle.cb_history.proofs.Lists.{flat_map-append, in_append, in_push, carried_there, names_apart, names_behind}
use Rattle.cb_history.proofs.Names.{all_stand}
use Rattle.cb_history.proofs.Prefixes.{prefix_of_facts_is_legal, last_fact_is_a_step}
use Rattle.cb_history.proofs.Times.{IsNew, is_new, first_is_new, seen_is_there, count_grows, own_number}
use Rattle.cb_history.proofs.Delivering.{named_among}
use Rattle.cb_history.proofs.Runs.{message_is_there}
use Rattle.cb_history.proofs.Keeping.{filter_of_map, spans_asked, take_frames}
use Rattle.cb_history.proofs.EverySender.{nothing_falls_of, stable_is_delivered}
use Rattle.cb_history.proofs.Windows.{casts_are_near}
use Rattle.cb_history.proofs.Whole.{one_carrier, is_whole}

-- ---- lists

all_by : {A : Type 0} (P : A → Type 0) (xs : List A) → ((x : A) → IsIn x xs → P x) → AllByRecursion P xs
all_by P [] each = tt
all_by P (x ∷ xs) each = (each x (inl refl), all_by P xs (λ y later. each y (inr later)))

each_by : {A : Type 0} (P : A → Type 0) (xs : List A) (x : A) → AllByRecursion P xs → IsIn x xs → P x
each_by P [] x all there = absurd there
each_by P (y ∷ xs) x all (inl same) = subst P (sym same) all.0
each_by P (y ∷ xs) x all (inr later) = each_by P xs x all.1 later

none_is_nothing : {A : Type 0} (xs : List A) → ((x : A) → IsIn x xs → ⊥) → xs ≡ []
none_is_nothing [] none = refl
none_is_nothing (x ∷ xs) none = absurd (none x (inl refl))

filter_all : {A : Type 0} (p : A → Bool) (xs : List A) → ((x : A) → IsIn x xs → p x ≡ true) → filter p xs ≡ xs
filter_all p [] each = refl
filter_all {A} p (x ∷ xs) each =
    ap (λ (b : Bool). cond b (x ∷ filter p xs) (filter p xs)) (each x (inl refl)) ∙ ap (λ (ys : List A). x ∷ ys) (filter_all p xs (λ y later. each y (inr later)))

filter_none : {A : Type 0} (p : A → Bool) (xs : List A) → ((x : A) → IsIn x xs → p x ≡ false) → filter p xs ≡ []
filter_none p [] each = refl
filter_none p (x ∷ xs) each =
    ap (λ (b : Bool). cond b (x ∷ filter p xs) (filter p xs)) (each x (inl refl)) ∙ filter_none p xs (λ y later. each y (inr later))

filter_same : {A : Type 0} (p q : A → Bool) (xs : List A) → ((x : A) → IsIn x xs → p x ≡ q x) → filter p xs ≡ filter q xs
filter_same p q [] each = refl
filter_same {A} p q (x ∷ xs) each =
    ap (λ (b : Bool). cond b (x ∷ filter p xs) (filter p xs)) (each x (inl refl))
    ∙ ap (λ (ys : List A). cond (q x) (x ∷ ys) ys) (filter_same p q xs (λ y later. each y (inr later)))

in_drop : {A : Type 0} (n : ℕ) (xs : List A) (x : A) → IsIn x (drop n xs) → IsIn x xs
in_drop zero xs x there = there
in_drop (suc n) [] x there = absurd there
in_drop (suc n) (y ∷ xs) x there = inr (in_drop n xs x there)

-- a list that is long enough has all of the last ones
last_of_back : {A : Type 0} (n : ℕ) (xs ys : List A) → n ≤ length ys → last_of n (xs ++ ys) ≡ last_of n ys
last_of_back {A} n xs ys le =
    ap (λ (k : ℕ). drop k (xs ++ ys)) (let both = length-append xs ys in omega (arith, both, le))
    ∙ sym (drop-drop (length ys - n) (length xs) (xs ++ ys)) ∙ ap (drop (length ys - n)) (drop_at xs ys (length xs) refl)

range_split : (a m n : ℕ) → range_with_len a (m + n) ≡ range_with_len a m ++ range_with_len (a + m) n
range_split a zero n = let len : zero + n ≡ n = omega arith in let from : a ≡ a + zero = omega arith in ap (range_with_len a) len ∙ ap (λ (b : ℕ). range_with_len b n) from
range_split a (suc m) n =
    let len : suc m + n ≡ suc (m + n) = omega arith in
    let from : a + 1 + m ≡ a + suc m = omega arith in
    ap (range_with_len a) len ∙ ap (λ (ns : List ℕ). a ∷ ns) (range_split (a + 1) m n ∙ ap (λ (b : ℕ). range_with_len (a + 1) m ++ range_with_len b n) from)

within_range : (a n k : ℕ) → IsIn k (range_with_len a n) → (a ≤ k) × (k < a + n)
within_range a zero k there = absurd there
within_range a (suc n) k (inl same) = (omega (arith, same), omega (arith, same))
within_range a (suc n) k (inr later) = let rest = within_range (a + 1) n k later in (omega (arith, rest.0), omega (arith, rest.1))

numbers_split : (low mid high : ℕ) → low ≤ mid → mid ≤ high → numbers_between low high ≡ numbers_between low mid ++ numbers_between mid high
numbers_split low mid high below above =
    let len : high - low ≡ (mid - low) + (high - mid) = omega (arith, below, above) in
    let from : low + 1 + (mid - low) ≡ mid + 1 = omega (arith, below) in
    ap (range_with_len (low + 1)) len ∙ range_split (low + 1) (mid - low) (high - mid) ∙ ap (λ (b : ℕ). numbers_between low mid ++ range_with_len b (high - mid)) from

in_numbers : (low high n : ℕ) → IsIn n (numbers_between low high) → (low < n) × (n ≤ high)
in_numbers low high n there = let is = within_range (low + 1) (high - low) n there in (omega (arith, is.0), omega (arith, is.0, is.1))

same_flat : {A B : Type 0} (f g : A → List B) (xs : List A) → ((x : A) → IsIn x xs → f x ≡ g x) → flat_map f xs ≡ flat_map g xs
same_flat f g [] each = refl
same_flat {B = B} f g (x ∷ xs) each =
    ap (λ (ys : List B). ys ++ flat_map f xs) (each x (inl refl)) ∙ ap (λ (ys : List B). g x ++ ys) (same_flat f g xs (λ y later. each y (inr later)))

in_flat : {A B : Type 0} (f : A → List B) (xs : List A) (y : B) → IsIn y (flat_map f xs) → (x : A) × IsIn x xs × IsIn y (f x)
in_flat f [] y there = absurd there
in_flat f (x ∷ xs) y there = elim (in_append y (f x) (flat_map f xs) there) [
  | inl here ↦ (x, inl refl, here)
  | inr later ↦ let found = in_flat f xs y later in (found.0, inr found.1, found.2)
]

-- ---- the casts between two numbers

pub between_split : (casts : List CastFields) (i low mid high : ℕ) → low ≤ mid → mid ≤ high
    → casts_between casts i low high ≡ casts_between casts i low mid ++ casts_between casts i mid high
between_split casts i low mid high below above =
    ap (flat_map (casts_at casts i)) (numbers_split low mid high below above) ∙ flat_map-append (casts_at casts i) (numbers_between low mid) (numbers_between mid high)

at_is : (casts : List CastFields) (i n : ℕ) (c : CastFields) → IsIn c (casts_at casts i n) → IsIn c casts × (c.sender ≡ i) × (first_number c ≡ n)
at_is casts i n c there =
    let found = filter_in (λ (x : CastFields). eqb x.sender i && eqb (first_number x) n) casts c there in
    let both = and_parts (eqb c.sender i) (eqb (first_number c) n) found.0 in
    (found.1, eqb-true c.sender i both.0, eqb-true (first_number c) n both.1)

pub record IsBetween (casts : List CastFields) (i low high : ℕ) (c : CastFields) : Type 0 where
  pub there : IsIn c casts
  pub sender_is : c.sender ≡ i
  pub above : low < first_number c
  pub upto : first_number c ≤ high

pub between_is : (casts : List CastFields) (i low high : ℕ) (c : CastFields) → IsIn c (casts_between casts i low high) → IsBetween casts i low high c
between_is casts i low high c there =
    let found = in_flat (casts_at casts i) (numbers_between low high) c there in
    let number = in_numbers low high found.0 found.1 in
    let at = at_is casts i found.0 c found.2 in
    record { there = at.0; sender_is = at.1; above = omega (arith, number.0, at.2); upto = omega (arith, number.1, at.2) }

-- ---- at each number begins one cast at most

abbrev AtMostOne : List CastFields → Type 0
AtMostOne casts = (casts ≡ []) ⊎ ((c : CastFields) × (casts ≡ c ∷ []))

one_at : (casts : List CastFields) (i n : ℕ) → NamesDiffer (messages_in casts) → CarrySome casts → AtMostOne (casts_at casts i n)
one_at [] i n differ some = inl refl
one_at (x ∷ casts) i n differ some =
    cond_both (begins x) (x ∷ casts_at casts i n) (casts_at casts i n) AtMostOne
    (λ yes. inr (x, ap (λ (cs : List CastFields). x ∷ cs) (none_is_nothing (casts_at casts i n) (λ y there. not_twice yes y (at_is casts i n y there)))))
    (λ no. one_at casts i n (names_behind (messages_of x) (messages_in casts) differ) some.1)
  where
    begins : CastFields → Bool
    begins c = eqb c.sender i && eqb (first_number c) n

    not_twice : begins x ≡ true → (y : CastFields) → IsIn y casts × (y.sender ≡ i) × (first_number y ≡ n) → ⊥
    not_twice begun y at =
        let both = and_parts (eqb x.sender i) (eqb (first_number x) n) begun in
        let mine = first_is_carried x some.0 in
        let other = first_is_carried y (some_at casts y some.1 at.0) in
        let sender : other.found.sender ≡ mine.found.sender = other.sender_is ∙ at.1 ∙ sym (mine.sender_is ∙ eqb-true x.sender i both.0) in
        let number : other.found.number ≡ mine.found.number = other.number_is ∙ at.2 ∙ sym (mine.number_is ∙ eqb-true (first_number x) n both.1) in
        both_ways (is_among (messages_of x) other.found)
        (names_apart (messages_of x) (messages_in casts) other.found differ (carried_there casts y other.found at.0 other.there))
        (named_among (messages_of x) other.found mine.found sender number mine.there)

-- so the casts between two numbers begin one after another
abbrev FirstsRise : ℕ → List CastFields → Type 0
FirstsRise low [] = Unit {0}
FirstsRise low (c ∷ casts) = (low < first_number c) × FirstsRise (first_number c) casts

firsts_rise_from : (casts : List CastFields) (i a n low : ℕ) → NamesDiffer (messages_in casts) → CarrySome casts → low < a
    → FirstsRise low (flat_map (casts_at casts i) (range_with_len a n))
firsts_rise_from casts i a zero low differ some lt = tt
firsts_rise_from casts i a (suc n) low differ some lt =
    let rest = flat_map (casts_at casts i) (range_with_len (a + 1) n) in
    elim (one_at casts i a differ some) [
      | inl none ↦ subst (λ (cs : List CastFields). FirstsRise low (cs ++ rest)) (sym none) (firsts_rise_from casts i (a + 1) n low differ some (omega (arith, lt)))
      | inr one ↦
          let first = (at_is casts i a one.0 (subst (IsIn one.0) (sym one.1) (inl refl))).2 in
          subst (λ (cs : List CastFields). FirstsRise low (cs ++ rest)) (sym one.1)
          (omega (arith, lt, first), firsts_rise_from casts i (a + 1) n (first_number one.0) differ some (omega (arith, first)))
    ]

firsts_rise : (casts : List CastFields) (i low high : ℕ) → NamesDiffer (messages_in casts) → CarrySome casts → FirstsRise low (casts_between casts i low high)
firsts_rise casts i low high differ some = firsts_rise_from casts i (low + 1) (high - low) low differ some (omega arith)

begins_above : (low : ℕ) (casts : List CastFields) (c : CastFields) → FirstsRise low casts → IsIn c casts → low < first_number c
begins_above low [] c rise there = absurd there
begins_above low (x ∷ casts) c rise (inl same) = let is = ap first_number same in omega (arith, is, rise.0)
begins_above low (x ∷ casts) c rise (inr later) = let rest = begins_above (first_number x) casts c rise.1 later in omega (arith, rest, rise.0)

-- from the first one's number on are the others
others_behind : (low : ℕ) (front back others : List CastFields) (x : CastFields) → front ++ back ≡ x ∷ others → FirstsRise low (front ++ back)
    → ((c : CastFields) → IsIn c front → first_number c ≤ first_number x)
    → ((c : CastFields) → IsIn c back → first_number x < first_number c) → back ≡ others
others_behind low [] back others x is rise upto above = let past = above x (subst (IsIn x) (sym is) (inl refl)) in absurd (omega (arith, past))
others_behind low (y ∷ []) back others x is rise upto above = cc
others_behind low (y ∷ z ∷ front) back others x is rise upto above =
    let same : y ≡ x = cc in
    let number : first_number y ≡ first_number x = ap first_number same in
    let next = upto z (inr (inl refl)) in
    absurd (omega (arith, rise.1.0, number, next))

pub behind_first : (casts : List CastFields) (i low high : ℕ) (x : CastFields) (others : List CastFields) → NamesDiffer (messages_in casts) → CarrySome casts
    → casts_between casts i low high ≡ x ∷ others
    → IsBetween casts i low high x × (casts_between casts i (first_number x) high ≡ others)
behind_first casts i low high x others differ some is =
    let between = between_is casts i low high x (subst (IsIn x) (sym is) (inl refl)) in
    let above = between.above in
    let upto = between.upto in
    let parts = between_split casts i low (first_number x) high (omega (arith, above)) upto in (
      between,
      others_behind low (casts_between casts i low (first_number x)) (casts_between casts i (first_number x) high) others x (sym parts ∙ is)
          (subst (FirstsRise low) parts (firsts_rise casts i low high differ some))
          (λ c there. (between_is casts i low (first_number x) c there).upto) (λ c there. (between_is casts i (first_number x) high c there).above),
    )

-- ---- casts of one sender do not overlap

-- the casts are those of a history
abbrev CanBeSplit : List CastFields → Type 0
CanBeSplit casts = NamesDiffer (messages_in casts) × CarrySome casts

-- a cast that begins no later than another ends no later, and before it, where it is not the same one
ends_before : (casts : List CastFields) (c d : CastFields) → CanBeSplit casts → IsIn c casts → IsIn d casts → c.sender ≡ d.sender → first_number c < first_number d
    → last_number c < first_number d
ends_before casts c d can there here sender lt =
    elim (cases_lt (last_number c) (first_number d)) [
      | inl before ↦ before
      | inr inside ↦ absurd (
          let mine = each_number_is_carried c (first_number d) (some_at casts c can.1 there) (omega (arith, lt)) inside in
          let other = first_is_carried d (some_at casts d can.1 here) in
          let same =
          one_carrier casts c d mine.found other.found can.0 there here mine.there other.there (mine.sender_is ∙ sender ∙ sym other.sender_is)
          (mine.number_is ∙ sym other.number_is) in
          let number : first_number c ≡ first_number d = ap first_number same in
          omega (arith, number, lt))
    ]

ends_upto : (casts : List CastFields) (c d : CastFields) → CanBeSplit casts → IsIn c casts → IsIn d casts → c.sender ≡ d.sender → first_number c ≤ first_number d
    → last_number c ≤ last_number d
ends_upto casts c d can there here sender le =
    elim (cases_eq (first_number c) (first_number d)) [
      | inl e ↦
          let mine = first_is_carried c (some_at casts c can.1 there) in
          let other = first_is_carried d (some_at casts d can.1 here) in
          let same =
          one_carrier casts c d mine.found other.found can.0 there here mine.there other.there (mine.sender_is ∙ sender ∙ sym other.sender_is)
          (mine.number_is ∙ e ∙ sym other.number_is) in
          let number : last_number c ≡ last_number d = ap last_number same in
          omega (arith, number)
      | inr ne ↦
          let before = ends_before casts c d can there here sender (omega (arith, le, ne)) in
          let filled = carries_some d (some_at casts d can.1 here) in
          omega (arith, before, filled)
    ]

-- so each takes up a number of its own
fit_upto : (casts own : List CastFields) (i low top : ℕ) → CanBeSplit casts → FirstsRise low own
    → ((c : CastFields) → IsIn c own → IsIn c casts × (c.sender ≡ i) × (low < first_number c) × (last_number c ≤ top)) → low ≤ top → low + length own ≤ top
fit_upto casts [] i low top can rise each le = omega (arith, le)
fit_upto casts (c ∷ own) i low top can rise each le =
    let here = each c (inl refl) in
    let filled = carries_some c (some_at casts c can.1 here.0) in
    let others =
    fit_upto casts own i (last_number c) top can (later_rise (last_number c) own rise.1 (λ d later. behind d later))
    (λ d later. let is = each d (inr later) in (is.0, is.1, behind d later, is.3)) here.3 in
    omega (arith, here.2, filled, others)
  where
    behind : (d : CastFields) → IsIn d own → last_number c < first_number d
    behind d later =
        ends_before casts c d can (each c (inl refl)).0 (each d (inr later)).0 ((each c (inl refl)).1 ∙ sym (each d (inr later)).1)
        (begins_above (first_number c) own d rise.1 later)

    later_rise : (least : ℕ) (own : List CastFields) → FirstsRise (first_number c) own → ((d : CastFields) → IsIn d own → least < first_number d) → FirstsRise least own
    later_rise least [] rise each = tt
    later_rise least (d ∷ own) rise each = (each d (inl refl), rise.1)

-- ---- one more cast

same_at : (casts : List CastFields) (c : CastFields) (i n : ℕ) → (c.sender ≡ i → first_number c ≡ n → ⊥) → casts_at (casts ++ c ∷ []) i n ≡ casts_at casts i n
same_at casts c i n other =
    filter-append begins casts (c ∷ [])
    ∙ ap (λ (cs : List CastFields). casts_at casts i n ++ cs)
    (filter_none begins (c ∷ []) (λ x there. ap begins (in_one_of_one x there) ∙ false_from_ne_true (begins c) (λ is.
    let both = and_parts (eqb c.sender i) (eqb (first_number c) n) is in
    other (eqb-true c.sender i both.0) (eqb-true (first_number c) n both.1))))
    ∙ append-nil (casts_at casts i n)
  where
    begins : CastFields → Bool
    begins x = eqb x.sender i && eqb (first_number x) n

    in_one_of_one : (x : CastFields) → IsIn x (c ∷ []) → x ≡ c
    in_one_of_one x (inl same) = same
    in_one_of_one x (inr none) = absurd none

-- it is between no numbers but those that it begins between
same_between : (casts : List CastFields) (c : CastFields) (i low high : ℕ) → (c.sender ≡ i → low < first_number c → first_number c ≤ high → ⊥)
    → casts_between (casts ++ c ∷ []) i low high ≡ casts_between casts i low high
same_between casts c i low high other =
    same_flat (casts_at (casts ++ c ∷ []) i) (casts_at casts i) (numbers_between low high) (λ n there.
    let is = in_numbers low high n there in
    same_at casts c i n (λ sender number. other sender (omega (arith, is.0, number)) (omega (arith, is.1, number))))

-- no cast that was there begins with its number
none_at_its_number : (casts : List CastFields) (c : CastFields) → IsNew casts c → CarrySome casts → casts_at casts c.sender (first_number c) ≡ []
none_at_its_number casts c new some = none_is_nothing (casts_at casts c.sender (first_number c)) (λ d there.
    let at = at_is casts c.sender (first_number c) d there in
    let first = first_is_carried d (some_at casts d some at.0) in
    both_ways (is_there casts c.sender (first_number c)) (first_is_new casts c new)
    (message_is_there casts first.found c.sender (first_number c) (carried_there casts d first.found at.0 first.there) (first.sender_is ∙ at.1) (first.number_is ∙ at.2)))

at_its_number : (casts : List CastFields) (c : CastFields) → IsNew casts c → CarrySome casts → casts_at (casts ++ c ∷ []) c.sender (first_number c) ≡ c ∷ []
at_its_number casts c new some =
    filter-append begins casts (c ∷ []) ∙ ap (λ (cs : List CastFields). cs ++ filter begins (c ∷ [])) (none_at_its_number casts c new some)
    ∙ ap (λ (b : Bool). cond b (c ∷ []) [])
    (and_from (eqb c.sender c.sender) (eqb (first_number c) (first_number c)) (eq-eqb c.sender c.sender refl) (eq-eqb (first_number c) (first_number c) refl))
  where
    begins : CastFields → Bool
    begins x = eqb x.sender c.sender && eqb (first_number x) (first_number c)

-- from one number to the next
between_next : (casts : List CastFields) (i n m : ℕ) → n + 1 ≡ m → casts_between casts i n m ≡ casts_at casts i m
between_next casts i n m next =
    let one : m - n ≡ 1 = omega (arith, next) in
    ap (λ (k : ℕ). flat_map (casts_at casts i) (range_with_len (n + 1) k)) one ∙ append-nil (casts_at casts i (n + 1)) ∙ ap (casts_at casts i) next

-- the casts of a sender in front of a new one of it, and behind it
record IsPlaced (casts : List CastFields) (c : CastFields) (low high : ℕ) : Type 0 where
  front : List CastFields
  back : List CastFields
  before : casts_between casts c.sender low high ≡ front ++ back
  after : casts_between (casts ++ c ∷ []) c.sender low high ≡ front ++ c ∷ back
  front_begins : (d : CastFields) → IsIn d front → first_number d < first_number c
  back_begins : (d : CastFields) → IsIn d back → first_number c < first_number d

new_is_placed : (casts : List CastFields) (c : CastFields) (low high : ℕ) → IsNew casts c → CarrySome casts → low < first_number c → first_number c ≤ high
    → IsPlaced casts c low high
new_is_placed casts c low high new some above upto = record {
  front = casts_between casts c.sender low p;
  back = casts_between casts c.sender f high;
  before = parts casts
      ∙ ap (λ (cs : List CastFields). casts_between casts c.sender low p ++ (cs ++ casts_between casts c.sender f high))
      (between_next casts c.sender p f next ∙ none_at_its_number casts c new some);
  after = parts (casts ++ c ∷ [])
      ∙ ap (λ (cs : List CastFields). cs ++ (casts_between (casts ++ c ∷ []) c.sender p f ++ casts_between (casts ++ c ∷ []) c.sender f high))
      (same_between casts c c.sender low p (λ _ _ le. omega (arith, le, next)))
      ∙ ap (λ (cs : List CastFields). casts_between casts c.sender low p ++ (cs ++ casts_between (casts ++ c ∷ []) c.sender f high))
      (between_next (casts ++ c ∷ []) c.sender p f next ∙ at_its_number casts c new some)
      ∙ ap (λ (cs : List CastFields). casts_between casts c.sender low p ++ c ∷ cs) (same_between casts c c.sender f high (λ _ lt _. omega (arith, lt)));
  front_begins = λ d there. let is = (between_is casts c.sender low p d there).upto in omega (arith, is, next);
  back_begins = λ d there. (between_is casts c.sender f high d there).above;
}
  where
    f : ℕ
    f = first_number c

    p : ℕ
    p = first_number c - 1

    next : first_number c - 1 + 1 ≡ first_number c
    next = omega (arith, above)

    parts : (all : List CastFields)
        → casts_between all c.sender low high ≡ casts_between all c.sender low p ++ (casts_between all c.sender p f ++ casts_between all c.sender f high)
    parts all =
        between_split all c.sender low p high (omega (arith, above, next)) (omega (arith, upto, next))
        ∙ ap (λ (cs : List CastFields). casts_between all c.sender low p ++ cs) (between_split all c.sender p f high (omega (arith, next)) upto)

placed_between : (c : CastFields) (front back : List CastFields) → ((d : CastFields) → IsIn d front → first_number d < first_number c)
    → ((d : CastFields) → IsIn d back → first_number c < first_number d)
    → placed (spanned_frame c) (map spanned_frame (front ++ back)) ≡ map spanned_frame (front ++ c ∷ back)
placed_between c [] [] below above = refl
placed_between c [] (d ∷ back) below above =
    ap (λ (b : Bool). cond b (spanned_frame c ∷ spanned_frame d ∷ map spanned_frame back) (spanned_frame d ∷ placed (spanned_frame c) (map spanned_frame back)))
    (lt-ltb (first_number c) (first_number d) (above d (inl refl)))
placed_between c (d ∷ front) back below above =
    let lt = below d (inl refl) in
    ap
    (λ (b : Bool). cond b (spanned_frame c ∷ spanned_frame d ∷ map spanned_frame (front ++ back)) (spanned_frame d ∷ placed (spanned_frame c) (map spanned_frame (front ++ back)))) (le-ltb (first_number c) (first_number d) (omega (arith, lt)))
    ∙ ap (λ (frames : List Spanned). spanned_frame d ∷ frames) (placed_between c front back (λ x later. below x (inr later)) above)

put_between : (casts : List CastFields) (c : CastFields) (low high : ℕ) → IsNew casts c → CarrySome casts → low < first_number c → first_number c ≤ high
    → (placed (spanned_frame c) (map spanned_frame (casts_between casts c.sender low high)) ≡ map spanned_frame (casts_between (casts ++ c ∷ []) c.sender low high))
    × (length (casts_between (casts ++ c ∷ []) c.sender low high) ≡ length (casts_between casts c.sender low high) + 1)
put_between casts c low high new some above upto =
    let is = new_is_placed casts c low high new some above upto in (
      ap (λ (cs : List CastFields). placed (spanned_frame c) (map spanned_frame cs)) is.before ∙ placed_between c is.front is.back is.front_begins is.back_begins
          ∙ ap (map spanned_frame) (sym is.after),
      (let now = ap length is.after ∙ length-append is.front (c ∷ is.back) in
          let was = ap length is.before ∙ length-append is.front is.back in
          omega (arith, now, was)),
    )

-- ---- the casts of legal facts

can_be_split : (seat : Identity) (facts : List Fact) → AreFactsOf seat facts → CanBeSplit (casts_in facts)
can_be_split seat facts are = let s = all_stand seat facts are.member are.facts_are in (s.names, s.some)

-- casts end within the window above what is delivered
ends_near : (seat : Identity) (facts : List Fact) (c : CastFields) → AreFactsOf seat facts → IsIn c (casts_in facts)
    → last_number c ≤ delivered seat facts c.sender + seat.group.window
ends_near seat facts c are there =
    let last = last_is_carried c (some_at (casts_in facts) c (can_be_split seat facts are).1 there) in
    casts_are_near seat facts c.sender (last_number c) are
    (message_is_there (casts_in facts) last.found c.sender (last_number c) (carried_there (casts_in facts) c last.found there last.there) last.sender_is last.number_is)

abbrev EndUpto : List CastFields → ℕ → ℕ → Type 0
EndUpto casts i top = (c : CastFields) → IsIn c casts → c.sender ≡ i → last_number c ≤ top

end_near : (seat : Identity) (facts : List Fact) (i : ℕ) → AreFactsOf seat facts → EndUpto (casts_in facts) i (delivered seat facts i + seat.group.window)
end_near seat facts i are c there sender = subst (λ (k : ℕ). last_number c ≤ delivered seat facts k + seat.group.window) sender (ends_near seat facts c are there)

-- so none begins beyond
none_beyond : (casts : List CastFields) (i top high : ℕ) → CarrySome casts → EndUpto casts i top → casts_between casts i top high ≡ []
none_beyond casts i top high some ends = none_is_nothing (casts_between casts i top high) (λ c there.
    let is = between_is casts i top high c there in
    let filled = carries_some c (some_at casts c some is.there) in
    let end = ends c is.there is.sender_is in
    let above = is.above in
    omega (arith, filled, end, above))

upto_top : (casts : List CastFields) (i low top high : ℕ) → CarrySome casts → EndUpto casts i top → low ≤ top → top ≤ high
    → casts_between casts i low high ≡ casts_between casts i low top
upto_top casts i low top high some ends below above =
    between_split casts i low top high below above
    ∙ ap (λ (cs : List CastFields). casts_between casts i low top ++ cs) (none_beyond casts i top high some ends) ∙ append-nil (casts_between casts i low top)

-- those that begin up to what is delivered are delivered
begun_is_delivered : (seat : Identity) (facts : List Fact) (i low : ℕ) (c : CastFields) → AreFactsOf seat facts
    → IsIn c (casts_between (casts_in facts) i low (delivered seat facts i)) → last_number c ≤ delivered seat facts i
begun_is_delivered seat facts i low c are there =
    let is = between_is (casts_in facts) i low (delivered seat facts i) c there in
    let at : delivered seat facts c.sender ≡ delivered seat facts i = ap (delivered seat facts) is.sender_is in
    let upto = is.upto in
    elim (is_whole seat facts c are is.there) [
      | inl all ↦ omega (arith, at, all)
      | inr none ↦ absurd (omega (arith, at, none, upto))
    ]

all_delivered : (seat : Identity) (facts : List Fact) (i low : ℕ) → AreFactsOf seat facts
    → filter (λ c. leb (last_number c) (delivered seat facts i)) (casts_between (casts_in facts) i low (delivered seat facts i)) ≡ casts_between (casts_in facts) i low
    (delivered seat facts i)
all_delivered seat facts i low are =
    filter_all (λ c. leb (last_number c) (delivered seat facts i)) (casts_between (casts_in facts) i low (delivered seat facts i))
    (λ c there. le-leb (last_number c) (delivered seat facts i) (begun_is_delivered seat facts i low c are there))

-- ---- what is forgotten

many_are_forgotten : (seat : Identity) (facts : List Fact) (i low high : ℕ) → AreFactsOf seat facts → low ≤ high → high ≤ delivered seat facts i
    → seat.group.window ≤ length (casts_between (casts_in facts) i low high)
    → IsForgotten seat facts i low
many_are_forgotten seat facts i low high are below upto many =
    let all = ap length (all_delivered seat facts i low are) in
    let parts =
    ap length (between_split (casts_in facts) i low high (delivered seat facts i) below upto)
    ∙ length-append (casts_between (casts_in facts) i low high) (casts_between (casts_in facts) i high (delivered seat facts i)) in
    inr (omega (arith, all, parts, many))

-- it stays so, where the casts up to what was delivered are the same
abbrev AreSameUpto : List CastFields → List CastFields → ℕ → ℕ → Type 0
AreSameUpto now casts i top = (low high : ℕ) → high ≤ top → casts_between now i low high ≡ casts_between casts i low high

still_forgotten : (seat : Identity) (facts : List Fact) (f : Fact) (i low : ℕ) → AreFactsOf seat (facts ++ f ∷ [])
    → AreSameUpto (casts_in (facts ++ f ∷ [])) (casts_in facts) i (delivered seat facts i) → low ≤ delivered seat facts i
    → IsForgotten seat facts i low → IsForgotten seat (facts ++ f ∷ []) i low
still_forgotten seat facts f i low are same reached (inl stable) =
    inl (all_by (λ c. last_number c ≤ stable_of seat (facts ++ f ∷ []) i) (casts_between (casts_in (facts ++ f ∷ [])) i 0 low) (λ c there.
    let was = each_by (λ c. last_number c ≤ stable_of seat facts i) (casts_between (casts_in facts) i 0 low) c stable (subst (IsIn c) (same 0 low reached) there) in
    omega (arith, was, (nothing_falls_of seat facts f i).2)))
still_forgotten seat facts f i low are same reached (inr many) =
    let all = ap length (all_delivered seat facts i low (prefix_of_facts_is_legal seat facts (f ∷ []) are)) in
    let alike = ap length (same low (delivered seat facts i) (omega arith)) in
    many_are_forgotten seat (facts ++ f ∷ []) i low (delivered seat facts i) are reached (count_grows seat.group.size facts f i) (omega (arith, many, all, alike))

-- ---- no fact, and facts that are no casts

nothing_between : (i low high : ℕ) → casts_between [] i low high ≡ []
nothing_between i low high = none_is_nothing (casts_between [] i low high) (λ c there. (between_is [] i low high c there).there)

pub nothing_is_relayed : NothingIsRelayed
nothing_is_relayed seat i r width none = record {
  width = width;
  low = 0;
  kept = λ high far. none ∙ ap (map spanned_frame) (sym (nothing_between i 0 high));
  reached = omega arith;
  forgotten = inl tt;
}

same_casts : (seat : Identity) (facts : List Fact) (f : Fact) (i low high : ℕ) → i ≢ seat.me → AreFactsOf seat (facts ++ f ∷ []) → IsNoCastOf i f
    → casts_between (casts_in (facts ++ f ∷ [])) i low high ≡ casts_between (casts_in facts) i low high
same_casts seat facts (OwnCast c) i low high other are none =
    ap (λ (cs : List CastFields). casts_between cs i low high) (casts_in-append facts (OwnCast c))
    ∙ same_between (casts_in facts) c i low high (λ e _ _. other (sym e ∙ (own_number seat facts c (all_stand seat (facts ++ OwnCast c ∷ []) are.member are.facts_are)).0))
same_casts seat facts (CastReceived c) i low high other are none =
    ap (λ (cs : List CastFields). casts_between cs i low high) (casts_in-append facts (CastReceived c)) ∙ same_between (casts_in facts) c i low high (λ e _ _. none e)
same_casts seat facts (StatusReceived s) i low high other are none =
    ap (λ (cs : List CastFields). casts_between cs i low high) (casts_in-append facts (StatusReceived s) ∙ append-nil (casts_in facts))
same_casts seat facts (OwnStatus s) i low high other are none =
    ap (λ (cs : List CastFields). casts_between cs i low high) (casts_in-append facts (OwnStatus s) ∙ append-nil (casts_in facts))

pub relays_stay : RelaysStay
relays_stay seat facts f i r other are none keeps =
    let grows = count_grows seat.group.size facts f i in
    let reached = keeps.reached in
    record {
      width = keeps.width;
      low = keeps.low;
      kept = λ high far. keeps.kept high (omega (arith, far, grows)) ∙ ap (map spanned_frame) (sym (same_casts seat facts f i keeps.low high other are none));
      reached = omega (arith, reached, grows);
      forgotten = still_forgotten seat facts f i keeps.low are (λ low high _. same_casts seat facts f i low high other are none) keeps.reached keeps.forgotten;
    }

-- ---- one more cast is put

first_of : {A : Type 0} (xs : List A) → 1 ≤ length xs → (x : A) × (others : List A) × (xs ≡ x ∷ others)
first_of [] some = absurd (omega (arith, some))
first_of (x ∷ xs) some = (x, xs, refl)

pub put_is_relayed : PutIsRelayed
put_is_relayed seat facts c old new are keeps width kept = by_place (leb (old.window + old.window) (length old.kept)) refl
  where
    casts : List CastFields
    casts = casts_in facts

    d : ℕ
    d = delivered seat facts c.sender

    top : ℕ
    top = delivered seat facts c.sender + seat.group.window

    was : AreFactsOf seat facts
    was = prefix_of_facts_is_legal seat facts (CastReceived c ∷ []) are

    now : casts_in (facts ++ CastReceived c ∷ []) ≡ casts_in facts ++ c ∷ []
    now = casts_in-append facts (CastReceived c)

    grows : delivered seat facts c.sender ≤ delivered seat (facts ++ CastReceived c ∷ []) c.sender
    grows = count_grows seat.group.size facts (CastReceived c) c.sender

    can : CanBeSplit (casts_in facts ++ c ∷ [])
    can = subst CanBeSplit now (can_be_split seat (facts ++ CastReceived c ∷ []) are)

    some : CarrySome (casts_in facts)
    some = (can_be_split seat facts was).1

    is : IsNew (casts_in facts) c
    is = is_new seat facts (CastReceived c) c (all_stand seat (facts ++ CastReceived c ∷ []) are.member are.facts_are) refl

    near : last_number c ≤ top
    near = ltb-false (delivered seat facts c.sender + seat.group.window) (last_number c) (last_fact_is_a_step seat facts (CastReceived c) are).taken.near

    above : d < first_number c
    above = elim (cases_lt d (first_number c)) [
      | inl lt ↦ lt
      | inr le ↦ absurd (both_ways (is_there casts c.sender (first_number c)) (first_is_new casts c is)
          (seen_is_there seat casts (view seat.group.size facts) (own_casts facts) c.sender (first_number c) (all_stand seat facts was.member was.facts_are) is.positive le))
    ]

    upto : first_number c ≤ top
    upto = omega (arith, near, carries_some c is.some)

    ends : EndUpto (casts_in facts ++ c ∷ []) c.sender top
    ends x there sender = elim (in_push x c (casts_in facts) there) [
      | inl before ↦ end_near seat facts c.sender was x before sender
      | inr same ↦ let number : last_number x ≡ last_number c = ap last_number same in omega (arith, near, number)
    ]

    same : AreSameUpto (casts_in (facts ++ CastReceived c ∷ [])) (casts_in facts) c.sender d
    same low high le =
        ap (λ (cs : List CastFields). casts_between cs c.sender low high) now
        ∙ same_between casts c c.sender low high (λ _ _ begins. let past = above in omega (arith, le, begins, past))

    -- the frames of the casts with it above this number
    AreKept : ℕ → Type 0
    AreKept low = new.kept ≡ map spanned_frame (casts_between (casts_in facts ++ c ∷ []) c.sender low top)

    kept_after : (low high : ℕ) → low ≤ d → AreKept low → delivered seat (facts ++ CastReceived c ∷ []) c.sender + seat.group.window ≤ high
        → new.kept ≡ map spanned_frame (casts_between (casts_in (facts ++ CastReceived c ∷ [])) c.sender low high)
    kept_after low high le at far =
        at ∙ ap (map spanned_frame) (sym (upto_top (casts_in facts ++ c ∷ []) c.sender low top high can.1 ends (omega (arith, le)) (omega (arith, far, grows))))
        ∙ ap (λ (cs : List CastFields). map spanned_frame (casts_between cs c.sender low high)) (sym now)

    keeps_from : (low : ℕ) → low ≤ d → AreKept low → IsForgotten seat (facts ++ CastReceived c ∷ []) c.sender low
        → KeepsRelays seat (facts ++ CastReceived c ∷ []) c.sender new
    keeps_from low le at forgotten = record {
      width = width ∙ keeps.width;
      low = low;
      kept = λ high far. kept_after low high le at far;
      reached = omega (arith, le, grows);
      forgotten = forgotten;
    }

    was_kept : old.kept ≡ map spanned_frame (casts_between casts c.sender keeps.low top)
    was_kept = keeps.kept top (omega arith)

    put_behind : (low : ℕ) → low ≤ d
        → placed (spanned_frame c) (map spanned_frame (casts_between casts c.sender low top)) ≡ map spanned_frame
        (casts_between (casts_in facts ++ c ∷ []) c.sender low top)
    put_behind low le = (put_between casts c low top is some (let past = above in omega (arith, le, past)) upto).0

    -- of those that are not delivered there are fewer than the window
    few_wait : length (casts_between casts c.sender d top) + 1 ≤ seat.group.window
    few_wait =
        let more = (put_between casts c d top is some above upto).1 in
        let fit =
        fit_upto (casts_in facts ++ c ∷ []) (casts_between (casts_in facts ++ c ∷ []) c.sender d top) c.sender d top can
        (firsts_rise (casts_in facts ++ c ∷ []) c.sender d top can.0 can.1)
        (λ x there. let between = between_is (casts_in facts ++ c ∷ []) c.sender d top x there in (between.there, between.sender_is, between.above, ends x between.there between.sender_is)) (omega arith) in
        omega (arith, more, fit)

    -- so where two windows are kept, the first one is let go for more than a window behind it
    let_go : seat.group.window + seat.group.window ≤ length old.kept → new.kept ≡ placed (spanned_frame c) (drop 1 old.kept)
        → KeepsRelays seat (facts ++ CastReceived c ∷ []) c.sender new
    let_go full put =
        let low = keeps.low in
        let begun = casts_between casts c.sender low d in
        let waiting = casts_between casts c.sender d top in
        let parts : casts_between casts c.sender low top ≡ begun ++ waiting = between_split casts c.sender low d top keeps.reached (omega arith) in
        let long : length old.kept ≡ length begun + length waiting =
        ap length was_kept ∙ length-map (casts_between casts c.sender low top) spanned_frame ∙ ap length parts ∙ length-append begun waiting in
        let few = few_wait in
        let first = first_of begun (omega (arith, full, long, few)) in
        let x = first.0 in
        let split = can_be_split seat facts was in
        let here = behind_first casts c.sender low d x first.1 split.0 split.1 first.2 in
        let whole : casts_between casts c.sender low top ≡ x ∷ (first.1 ++ waiting) = parts ∙ ap (λ (cs : List CastFields). cs ++ waiting) first.2 in
        let behind = behind_first casts c.sender low top x (first.1 ++ waiting) split.0 split.1 whole in
        let left : drop 1 old.kept ≡ map spanned_frame (casts_between casts c.sender (first_number x) top) =
        ap (drop 1) (was_kept ∙ ap (map spanned_frame) whole) ∙ ap (map spanned_frame) (sym behind.1) in
        let many : length begun ≡ length first.1 + 1 = ap length first.2 ∙ omega arith in
        let as_many : length (casts_between (casts_in (facts ++ CastReceived c ∷ [])) c.sender (first_number x) d) ≡ length first.1 =
        ap length (same (first_number x) d (omega arith) ∙ here.1) in
        let le : first_number x ≤ d = here.0.upto in
        keeps_from (first_number x) le (put ∙ ap (placed (spanned_frame c)) left ∙ put_behind (first_number x) le)
        (many_are_forgotten seat (facts ++ CastReceived c ∷ []) c.sender (first_number x) d are le grows (omega (arith, full, long, few, many, as_many)))

    by_place : (b : Bool) → leb (old.window + old.window) (length old.kept) ≡ b → KeepsRelays seat (facts ++ CastReceived c ∷ []) c.sender new
    by_place true e =
        let full = leb-true (old.window + old.window) (length old.kept) e in
        let wide = keeps.width in
        let_go (omega (arith, full, wide)) (kept ∙ ap (λ (b : Bool). placed (spanned_frame c) (cond b (drop 1 old.kept) old.kept)) e)
    by_place false e =
        keeps_from keeps.low keeps.reached
        (kept ∙ ap (λ (b : Bool). placed (spanned_frame c) (cond b (drop 1 old.kept) old.kept)) e ∙ ap (placed (spanned_frame c)) was_kept ∙ put_behind keeps.low keeps.reached)
        (still_forgotten seat facts (CastReceived c) c.sender keeps.low are same keeps.reached keeps.forgotten)

-- ---- what is stable is trimmed

-- frames are kept of what is left of these
record LeavesKept (seat : Identity) (facts : List Fact) (i number : ℕ) (frames : List Spanned) : Type 0 where
  low : ℕ
  kept : behind_stable number frames ≡ map spanned_frame (casts_between (casts_in facts) i low (delivered seat facts i + seat.group.window))
  reached : low ≤ delivered seat facts i
  forgotten : IsForgotten seat facts i low

behind_one : (number : ℕ) (c : CastFields) (frames : List Spanned)
    → behind_stable number (spanned_frame c ∷ frames) ≡ cond (leb (last_number c) number) (behind_stable number frames) (spanned_frame c ∷ frames)
behind_one number c frames = by_test (leb (last_number c) number) refl
  where
    n : ℕ
    n = prefix_len (λ (frame : Spanned). leb frame.last number) frames

    by_test : (b : Bool) → leb (last_number c) number ≡ b
        → drop (cond b (1 + n) 0) (spanned_frame c ∷ frames) ≡ cond b (behind_stable number frames) (spanned_frame c ∷ frames)
    by_test true e = let one : 1 + n ≡ suc n = omega arith in ap (λ (k : ℕ). drop k (spanned_frame c ∷ frames)) one
    by_test false e = refl

trim_from : (seat : Identity) (facts : List Fact) (i number low : ℕ) (own : List CastFields) → AreFactsOf seat facts → number ≤ stable_of seat facts i
    → low ≤ delivered seat facts i → IsForgotten seat facts i low
    → casts_between (casts_in facts) i low (delivered seat facts i + seat.group.window) ≡ own → LeavesKept seat facts i number (map spanned_frame own)
trim_from seat facts i number low [] are stable reached forgotten is =
    record { low = low; kept = ap (map spanned_frame) (sym is); reached = reached; forgotten = forgotten }
trim_from seat facts i number low (x ∷ own) are stable reached forgotten is =
    let can = can_be_split seat facts are in
    let top = delivered seat facts i + seat.group.window in
    let behind = behind_first (casts_in facts) i low top x own can.0 can.1 is in
    let filled = carries_some x (some_at (casts_in facts) x can.1 behind.0.there) in
    let below = stable_is_delivered seat facts i are in
    elim (cases_lt number (last_number x)) [
      | inl more ↦ record {
        low = low;
        kept = behind_one number x (map spanned_frame own)
            ∙ ap (λ (b : Bool). cond b (behind_stable number (map spanned_frame own)) (spanned_frame x ∷ map spanned_frame own)) (lt-leb (last_number x) number more)
            ∙ ap (map spanned_frame) (sym is);
        reached = reached;
        forgotten = forgotten;
      }
      | inr passed ↦
          let all : AllByRecursion (λ c. last_number c ≤ stable_of seat facts i) (casts_between (casts_in facts) i 0 (first_number x)) =
          all_by (λ c. last_number c ≤ stable_of seat facts i) (casts_between (casts_in facts) i 0 (first_number x)) (λ c there.
          let between = between_is (casts_in facts) i 0 (first_number x) c there in
          let ends = ends_upto (casts_in facts) c x can between.there behind.0.there (between.sender_is ∙ sym behind.0.sender_is) between.upto in
          omega (arith, ends, passed, stable)) in
          let others = trim_from seat facts i number (first_number x) own are stable (omega (arith, filled, passed, stable, below)) (inl all) behind.1 in
          record {
            low = others.low;
            kept = behind_one number x (map spanned_frame own)
                ∙ ap (λ (b : Bool). cond b (behind_stable number (map spanned_frame own)) (spanned_frame x ∷ map spanned_frame own))
                (le-leb (last_number x) number passed) ∙ others.kept;
            reached = others.reached;
            forgotten = others.forgotten;
          }
    ]

pub trim_is_relayed : TrimIsRelayed
trim_is_relayed seat facts i number old new are other stable keeps width kept =
    let top = delivered seat facts i + seat.group.window in
    let left = trim_from seat facts i number keeps.low (casts_between (casts_in facts) i keeps.low top) are stable keeps.reached keeps.forgotten refl in
    let reached = left.reached in
    record {
      width = width ∙ keeps.width;
      low = left.low;
      kept = λ high far. kept ∙ ap (behind_stable number) (keeps.kept top (omega arith)) ∙ left.kept
          ∙ ap (map spanned_frame)
          (sym (upto_top (casts_in facts) i left.low top high (can_be_split seat facts are).1 (end_near seat facts i are) (omega (arith, reached)) far));
      reached = left.reached;
      forgotten = left.forgotten;
    }

-- ---- what is handed on

nothing_or_some : {A : Type 0} (xs : List A) → (xs ≡ []) ⊎ ((x : A) × IsIn x xs)
nothing_or_some [] = inl refl
nothing_or_some (x ∷ xs) = inr (x, inl refl)

and_with_true : (a b : Bool) → b ≡ true → (a && b) ≡ a
and_with_true true b h = h
and_with_true false b h = refl

abbrev unstable : ℕ → List CastFields → List CastFields
unstable stable casts = filter (λ c. ltb stable (last_number c)) casts

-- of the kept ones those that begin up to what is delivered are handed on, where they are not stable
kept_and_handed_on : (seat : Identity) (facts : List Fact) (i low : ℕ) → AreFactsOf seat facts → low ≤ delivered seat facts i
    → filter (λ c. is_handed_on (stable_of seat facts i) (delivered seat facts i) (spanned_frame c))
    (casts_between (casts_in facts) i low (delivered seat facts i + seat.group.window))
    ≡ unstable (stable_of seat facts i) (casts_between (casts_in facts) i low (delivered seat facts i))
kept_and_handed_on seat facts i low are reached =
    ap (filter passes) (between_split (casts_in facts) i low d top reached (omega arith)) ∙ filter-append passes begun waiting
    ∙ ap (λ (cs : List CastFields). filter passes begun ++ cs) (filter_none passes waiting (λ c there.
    let is = between_is (casts_in facts) i d top c there in
    let above = is.above in
    let filled = carries_some c (some_at (casts_in facts) c (can_be_split seat facts are).1 is.there) in
    and_right (ltb s (last_number c)) (leb (last_number c) d) (lt-leb (last_number c) d (omega (arith, above, filled)))))
    ∙ append-nil (filter passes begun)
    ∙ filter_same passes (λ c. ltb s (last_number c)) begun
    (λ c there. and_with_true (ltb s (last_number c)) (leb (last_number c) d) (le-leb (last_number c) d (begun_is_delivered seat facts i low c are there)))
  where
    s : ℕ
    s = stable_of seat facts i

    d : ℕ
    d = delivered seat facts i

    top : ℕ
    top = delivered seat facts i + seat.group.window

    passes : CastFields → Bool
    passes c = is_handed_on s d (spanned_frame c)

    begun : List CastFields
    begun = casts_between (casts_in facts) i low d

    waiting : List CastFields
    waiting = casts_between (casts_in facts) i d top

-- those that are forgotten are not among the last ones
last_are_kept : (seat : Identity) (facts : List Fact) (i low : ℕ) → AreFactsOf seat facts → low ≤ delivered seat facts i → IsForgotten seat facts i low
    → handed_on seat facts i ≡ last_of seat.group.window (unstable (stable_of seat facts i) (casts_between (casts_in facts) i low (delivered seat facts i)))
last_are_kept seat facts i low are reached forgotten =
    ap (λ (cs : List CastFields). last_of seat.group.window (unstable s cs))
    (all_delivered seat facts i 0 are ∙ between_split (casts_in facts) i 0 low d (omega arith) reached)
    ∙ ap (last_of seat.group.window) (filter-append (λ c. ltb s (last_number c)) front begun) ∙ by_front (nothing_or_some (unstable s front)) forgotten
  where
    s : ℕ
    s = stable_of seat facts i

    d : ℕ
    d = delivered seat facts i

    front : List CastFields
    front = casts_between (casts_in facts) i 0 low

    begun : List CastFields
    begun = casts_between (casts_in facts) i low d

    none_in_front : unstable s front ≡ [] → last_of seat.group.window (unstable s front ++ unstable s begun) ≡ last_of seat.group.window (unstable s begun)
    none_in_front none = ap (λ (cs : List CastFields). last_of seat.group.window (cs ++ unstable s begun)) none

    -- what begins behind one that is not stable is not
    none_is_stable : (x : CastFields) → IsIn x (unstable s front) → unstable s begun ≡ begun
    none_is_stable x there =
        let found = filter_in (λ c. ltb s (last_number c)) front x there in
        let before = between_is (casts_in facts) i 0 low x found.1 in
        let more = ltb-true s (last_number x) found.0 in
        let can = can_be_split seat facts are in
        filter_all (λ c. ltb s (last_number c)) begun (λ c later.
        let is = between_is (casts_in facts) i low d c later in
        let upto = before.upto in
        let above = is.above in
        let apart = ends_before (casts_in facts) x c can before.there is.there (before.sender_is ∙ sym is.sender_is) (omega (arith, upto, above)) in
        let filled = carries_some c (some_at (casts_in facts) c can.1 is.there) in
        lt-ltb s (last_number c) (omega (arith, more, apart, filled)))

    by_front : (unstable s front ≡ []) ⊎ ((x : CastFields) × IsIn x (unstable s front)) → IsForgotten seat facts i low
        → last_of seat.group.window (unstable s front ++ unstable s begun) ≡ last_of seat.group.window (unstable s begun)
    by_front (inl none) forgotten = none_in_front none
    by_front (inr found) (inl stable) =
        none_in_front
        (filter_none (λ c. ltb s (last_number c)) front (λ c there. le-ltb s (last_number c) (each_by (λ c. last_number c ≤ stable_of seat facts i) front c stable there)))
    by_front (inr found) (inr many) =
        let all = ap length (all_delivered seat facts i low are) in
        let same = ap length (none_is_stable found.0 found.1) in
        last_of_back seat.group.window (unstable s front) (unstable s begun) (omega (arith, many, all, same))

last_frames : (n : ℕ) (casts : List CastFields) → last_of n (map spanned_frame casts) ≡ map spanned_frame (last_of n casts)
last_frames n casts = ap (λ (k : ℕ). drop (k - n) (map spanned_frame casts)) (length-map casts spanned_frame) ∙ drop-map spanned_frame (length casts - n) casts

same_handed_on : (seat : Identity) (facts : List Fact) (i : ℕ) (r : Relayed) → AreFactsOf seat facts → KeepsRelays seat facts i r
    → relays.handed_on r.window (stable_of seat facts i) (delivered seat facts i) r.kept ≡ map spanned_frame (handed_on seat facts i)
same_handed_on seat facts i r are keeps =
    let s = stable_of seat facts i in
    let d = delivered seat facts i in
    let top = d + seat.group.window in
    let frames : filter (is_handed_on s d) r.kept ≡ map spanned_frame (unstable s (casts_between (casts_in facts) i keeps.low d)) =
    ap (filter (is_handed_on s d)) (keeps.kept top (omega arith)) ∙ filter_of_map spanned_frame (is_handed_on s d) (casts_between (casts_in facts) i keeps.low top)
    ∙ ap (map spanned_frame) (kept_and_handed_on seat facts i keeps.low are keeps.reached) in
    ap (λ (n : ℕ). last_of n (filter (is_handed_on s d) r.kept)) keeps.width ∙ ap (last_of seat.group.window) frames
    ∙ last_frames seat.group.window (unstable s (casts_between (casts_in facts) i keeps.low d))
    ∙ ap (map spanned_frame) (sym (last_are_kept seat facts i keeps.low are keeps.reached keeps.forgotten))

handed_on_carry_some : (seat : Identity) (facts : List Fact) (i : ℕ) → AreFactsOf seat facts → CarrySome (handed_on seat facts i)
handed_on_carry_some seat facts i are =
    let s = stable_of seat facts i in
    let live : CastFields → Bool = λ c. ltb s (last_number c) in
    let delivered_ones = delivered_casts seat facts i in
    all_by (λ (c : CastFields). IsSome c.load) (handed_on seat facts i) (λ c there.
    let passed = filter_in live delivered_ones c (in_drop (length (filter live delivered_ones) - seat.group.window) (filter live delivered_ones) c there) in
    let begun = filter_in (λ (x : CastFields). leb (last_number x) (delivered seat facts i)) (casts_between (casts_in facts) i 0 (delivered seat facts i)) c passed.1 in
    some_at (casts_in facts) c (can_be_split seat facts are).1 (between_is (casts_in facts) i 0 (delivered seat facts i) c begun.1).there)

pub relays_are_handed_on : RelaysAreHandedOn
relays_are_handed_on seat facts r h are helper other keeps =
    rw (eq-eqb h.helper seat.me helper)
    (take_frames MOST_FRAMES (filter (is_asked_for h.ranges) (handed_on seat facts h.sender)) h.requester
    ∙ ap (λ (frames : List Spanned). map (sent_to h.requester) (map (λ frame. frame.bytes) (take MOST_FRAMES frames)))
    (spans_asked h.ranges (handed_on seat facts h.sender) (handed_on_carry_some seat facts h.sender are) ∙ ap (filter (is_in_ranges h.ranges)) (sym (same_handed_on seat facts h.sender r are keeps))))
