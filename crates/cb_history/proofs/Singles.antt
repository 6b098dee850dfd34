-- Casts and their singles say the same.
use Rattle.std.proofs.Common.{◌≡◌, ℕ, suc, ◌+◌, ◌≤◌, Bool, true, false, cond, ◌&&◌, eqb, leb, List, [], ◌∷◌, ◌++◌, length, map, min, refl, sym, ap, subst, ◌∙◌, arith, inl, inr, ◌⊎◌}
use Rattle.std.specs.List.{AllByRecursion, list_all, list_any, filter, sum_by}
use Rattle.std.proofs.lemmas.List.{append-nil}
use Rattle.std.proofs.lemmas.List.Sums.{sum_by-cons, sum_by-append}
use Rattle.cb_frames.specs.declared.frame.Change.{Change}
use Rattle.cb_frames.specs.Fields.{Load, CastFields, Carried, messages_of, growth_in, first_number, last_number}
use Rattle.cb_frames.specs.Carrying.{AreNumberedFrom}
use Rattle.cb_frames.proofs.Carried.{one_load, first_is_number, last_is_first, carried_in_order, carries_payloads, carries_one}
use Rattle.cb_diffs.specs.Expansion.{greatest, growth_of, expanded_field, CarrySome}
use Rattle.cb_history.specs.Facts.{casts_in, cast_in, messages_in, is_there, numbers_between}
use Rattle.cb_history.specs.Known.{greatest_of, expanded_count}
use Rattle.cb_history.specs.NameLaws.{NumberedFrom}
use Rattle.cb_history.specs.Singles.{IsSingle, single_of, singles_from, singles_of, singles_among, SinglesOfOneMessage, SinglesOfSingles, SinglesAreAsMany, SinglesAreNumbered, SinglesAreSingle, SinglesWithOneMore, SinglesAreTheSame}
use Rattle.cb_history.proofs.Views.{IsIn, casts_in-append}
use Rattle.cb_history.proofs.Lists.{flat_map-append, in_append}
use Rattle.cb_history.proofs.Times.{same_over_range}
use Rattle.cb_history.proofs.Agreement.{all_at}

-- ---- what a single carries

-- the message that it was made of
pub single_carries : (c : CastFields) (changes : List Change) (m : Carried) → messages_of (single_of c changes m) ≡ m ∷ []
single_carries c changes m = carries_one (single_of c changes m) tt

pub single_begins : (c : CastFields) (changes : List Change) (m : Carried) → first_number (single_of c changes m) ≡ m.number
single_begins c changes m = first_is_number (single_of c changes m)

-- ---- what they are

pub singles_of_one_message : SinglesOfOneMessage
singles_of_one_message c single =
    ap (singles_from c c.changes) (carries_one c single) ∙ ap (λ (load : Load). record c { load = load } ∷ []) (sym (one_load c.load single))

pub singles_of_singles : SinglesOfSingles
singles_of_singles [] all = refl
singles_of_singles (c ∷ casts) all =
    ap (λ (xs : List CastFields). xs ++ singles_among casts) (singles_of_one_message c all.0)
    ∙ ap (λ (xs : List CastFields). c ∷ xs) (singles_of_singles casts all.1)

many_from : (c : CastFields) (changes : List Change) (ms : List Carried) → length (singles_from c changes ms) ≡ length ms
many_from c changes [] = refl
many_from c changes (m ∷ ms) = ap (λ (n : ℕ). suc n) (many_from c [] ms)

pub singles_are_as_many : SinglesAreAsMany
singles_are_as_many c = many_from c c.changes (messages_of c)

numbered_from : (c : CastFields) (changes : List Change) (sender n : ℕ) (ms : List Carried) → AreNumberedFrom sender n ms → NumberedFrom sender n (singles_from c changes ms)
numbered_from c changes sender n [] row = tt
numbered_from c changes sender n (m ∷ ms) row =
    let begins : first_number (single_of c changes m) ≡ n = single_begins c changes m ∙ row.1 in
    let ends : n + 1 ≡ last_number (single_of c changes m) + 1 = omega (arith, begins, last_is_first (single_of c changes m) tt) in
    (row.0, begins, subst (λ (k : ℕ). NumberedFrom sender k (singles_from c [] ms)) ends (numbered_from c [] sender (n + 1) ms row.2))

pub singles_are_numbered : SinglesAreNumbered
singles_are_numbered c = numbered_from c c.changes c.sender (first_number c) (messages_of c) (carried_in_order c)

single_from : (c : CastFields) (changes : List Change) (ms : List Carried) (more : List CastFields) → AllByRecursion IsSingle more → AllByRecursion IsSingle (singles_from c changes ms ++ more)
single_from c changes [] more others = others
single_from c changes (m ∷ ms) more others = (tt, single_from c [] ms more others)

pub singles_are_single : SinglesAreSingle
singles_are_single [] = tt
singles_are_single (c ∷ casts) = single_from c c.changes (messages_of c) (singles_among casts) (singles_are_single casts)

pub singles_of_one : (c : CastFields) → AllByRecursion IsSingle (singles_of c)
singles_of_one c = subst (AllByRecursion IsSingle) (append-nil (singles_of c)) (singles_are_single (c ∷ []))

pub single_among : (casts : List CastFields) (c : CastFields) → IsIn c (singles_among casts) → IsSingle c
single_among casts c there = all_at IsSingle (singles_among casts) c (singles_are_single casts) there

pub singles_with_one_more : SinglesWithOneMore
singles_with_one_more facts f = ap singles_among (casts_in-append facts f) ∙ flat_map-append singles_of (casts_in facts) (cast_in f)

-- ---- which frame a single is of

-- of the sender of the cast, and with its changes or none
pub record IsOf (c s : CastFields) : Type 0 where
  pub group_is : s.group ≡ c.group
  pub sender_is : s.sender ≡ c.sender
  pub changes_are : (s.changes ≡ c.changes) ⊎ (s.changes ≡ [])

made_from : (c s : CastFields) (changes : List Change) (n : ℕ) (ms : List Carried) → (changes ≡ c.changes) ⊎ (changes ≡ []) → AreNumberedFrom c.sender n ms → IsIn s (singles_from c changes ms) → IsOf c s
made_from c s changes n [] from row there = absurd there
made_from c s changes n (m ∷ ms) from row (inl same) = subst (IsOf c) (sym same) (record { group_is = refl; sender_is = row.0; changes_are = from })
made_from c s changes n (m ∷ ms) from row (inr later) = made_from c s [] (n + 1) ms (inr refl) row.2 later

pub record HasFrame (casts : List CastFields) (s : CastFields) : Type 0 where
  pub frame : CastFields
  pub there : IsIn frame casts
  pub is_of : IsOf frame s

pub frame_of_single : (casts : List CastFields) (s : CastFields) → IsIn s (singles_among casts) → HasFrame casts s
frame_of_single [] s there = absurd there
frame_of_single (c ∷ casts) s there = elim (in_append s (singles_of c) (singles_among casts) there) [
  | inl here ↦ record { frame = c; there = inl refl; is_of = made_from c s c.changes (first_number c) (messages_of c) (inl refl) (carried_in_order c) here }
  | inr later ↦ let found = frame_of_single casts s later in record { frame = found.frame; there = inr found.there; is_of = found.is_of }
]

-- ---- the same messages

messages_from : (c : CastFields) (changes : List Change) (ms : List Carried) → messages_in (singles_from c changes ms) ≡ ms
messages_from c changes [] = refl
messages_from c changes (m ∷ ms) =
    ap (λ (xs : List Carried). xs ++ messages_in (singles_from c [] ms)) (single_carries c changes m) ∙ ap (λ (xs : List Carried). m ∷ xs) (messages_from c [] ms)

pub same_messages : (casts : List CastFields) → messages_in (singles_among casts) ≡ messages_in casts
same_messages [] = refl
same_messages (c ∷ casts) =
    flat_map-append messages_of (singles_of c) (singles_among casts)
    ∙ ap (λ (xs : List Carried). xs ++ messages_in (singles_among casts)) (messages_from c c.changes (messages_of c))
    ∙ ap (λ (xs : List Carried). messages_of c ++ xs) (same_messages casts)

-- what is there and what is expanded are said of the messages alone
abbrev is_in : List Carried → ℕ → ℕ → Bool
is_in ms i n = list_any (λ m. eqb m.sender i && eqb m.number n) ms

abbrev is_run : List Carried → Carried → Bool
is_run ms m = list_all (is_in ms m.sender) (numbers_between 0 m.number)

pub there_by_messages : (casts others : List CastFields) (i n : ℕ) → messages_in casts ≡ messages_in others → is_there casts i n ≡ is_there others i n
there_by_messages casts others i n same = ap (λ (ms : List Carried). is_in ms i n) same

pub counts_by_messages : (casts others : List CastFields) (i : ℕ) → messages_in casts ≡ messages_in others → expanded_count casts i ≡ expanded_count others i
counts_by_messages casts others i same = ap (λ (ms : List Carried). greatest_of (map (λ m. m.number) (filter (λ m. eqb m.sender i) (filter (is_run ms) ms)))) same

-- ---- the same times

no_growth : (b : Bool) → cond {A = ℕ} b 0 0 ≡ 0
no_growth true = refl
no_growth false = refl

others_add_nothing : (c : CastFields) (ms : List Carried) (i n k : ℕ) → sum_by (growth_of i n k) (singles_from c [] ms) ≡ 0
others_add_nothing c [] i n k = refl
others_add_nothing c (m ∷ ms) i n k =
    let here : growth_of i n k (single_of c [] m) ≡ 0 = no_growth (eqb m.sender i && leb (first_number (single_of c [] m)) n) in
    omega (arith, sum_by-cons (growth_of i n k) (single_of c [] m) (singles_from c [] ms), here, others_add_nothing c ms i n k)

-- the first of them adds what the cast does
first_adds : (c : CastFields) (ms : List Carried) (i n k : ℕ) → AreNumberedFrom c.sender (first_number c) ms → 1 ≤ length ms → sum_by (growth_of i n k) (singles_from c c.changes ms) ≡ growth_of i n k c
first_adds c [] i n k row some = absurd (omega (arith, some))
first_adds c (m ∷ ms) i n k row some =
    let begins : first_number (single_of c c.changes m) ≡ first_number c = single_begins c c.changes m ∙ row.1 in
    let here : growth_of i n k (single_of c c.changes m) ≡ growth_of i n k c =
    ap (λ (j : ℕ). cond (eqb j i && leb (first_number (single_of c c.changes m)) n) (growth_in c.changes k) 0) row.0
    ∙ ap (λ (j : ℕ). cond (eqb c.sender i && leb j n) (growth_in c.changes k) 0) begins in
    omega (arith, sum_by-cons (growth_of i n k) (single_of c c.changes m) (singles_from c [] ms), here, others_add_nothing c ms i n k)

same_sums : (casts : List CastFields) (i n k : ℕ) → CarrySome casts → sum_by (growth_of i n k) (singles_among casts) ≡ sum_by (growth_of i n k) casts
same_sums [] i n k some = refl
same_sums (c ∷ casts) i n k some =
    let here = first_adds c (messages_of c) i n k (carried_in_order c) (omega (arith, carries_payloads c, some.0)) in
    omega (arith, sum_by-append (growth_of i n k) (singles_of c) (singles_among casts), sum_by-cons (growth_of i n k) c casts, here, same_sums casts i n k some.1)

same_fields : (casts : List CastFields) (i n k : ℕ) → CarrySome casts → expanded_field (singles_among casts) i n k ≡ expanded_field casts i n k
same_fields casts i n k some = ap (λ (sum : ℕ). cond (eqb k i) n (min greatest sum)) (same_sums casts i n k some)

pub singles_are_the_same : SinglesAreTheSame
singles_are_the_same casts =
    let same = same_messages casts in
    record {
      messages = same;
      there = λ i n. there_by_messages (singles_among casts) casts i n same;
      can_be_expanded = λ m. ap (λ (ms : List Carried). is_run ms m) same;
      expanded = ap (λ (ms : List Carried). filter (is_run ms) ms) same;
      counts = λ i. counts_by_messages (singles_among casts) casts i same;
      fields = λ some i n k. same_fields casts i n k some;
      times = λ some size i n. same_over_range (expanded_field (singles_among casts) i n) (expanded_field casts i n) 0 size (λ k lt. same_fields casts i n k some);
    }
