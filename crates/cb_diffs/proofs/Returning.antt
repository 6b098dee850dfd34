-- Differences that are expanded give the times that they were taken of.
use Rattle.std.proofs.Common.{◌≡◌, ◌≢◌, ℕ, zero, suc, ◌+◌, ◌-◌, ◌<◌, ◌≤◌, true, false, cond, eqb, List, [], ◌∷◌, length, get_or, set, map, replicate, refl, sym, ap, subst, ◌∙◌, arith, inl, inr}
use Rattle.std.specs.Prelude.{All}
use Rattle.std.specs.List.{AllByRecursion, filter, sum_by, range_with_len, zip}
use Rattle.std.proofs.lemmas.Bool.{cases_eq, cases_lt, eq-eqb, ne_eqb, lt-ltb, le-ltb}
use Rattle.std.proofs.lemmas.List.{length-set, length-replicate, get_or-replicate, get_or-set_same, get_or_past}
use Rattle.std.proofs.lemmas.List.Elements.{All-filter, All-map, All-from_get_or}
use Rattle.std.proofs.lemmas.List.Sums.{sum_by-cons}
use Rattle.std.proofs.lemmas.List.FromFn.{length-range_with_len, get_or-range_with_len}
use Rattle.cb_times.specs.Order.{field}
use Rattle.cb_frames.specs.declared.frame.Change.{Change}
use Rattle.cb_frames.specs.Fields.{CastFields, first_number, growth_in}
use Rattle.cb_frames.proofs.Carried.{one_has_some}
use Rattle.cb_diffs.specs.Differences.{change_of, is_reported, differences}
use Rattle.cb_diffs.specs.Expansion.{expanded_time, time_of, Expands, ExpandsAll}
use Rattle.cb_diffs.specs.Returning.{IsLater, AreSendersTimes, TellsDifference, TellDifferences, DifferencesExpandBack, DifferencesAddUp}
use Rattle.cb_diffs.proofs.Growing.{kept_is_given}
use Rattle.cb_diffs.proofs.Sums.{times_are_sums}

-- ---- what the differences say of one field

-- the changes of n fields from a on
abbrev reported : List ℕ → List ℕ → ℕ → ℕ → ℕ → List Change
reported previous now own a n = filter (is_reported own) (map (change_of previous now) (range_with_len a n))

abbrev counts : ℕ → Change → ℕ
counts k d = cond (eqb d.field k) d.amount 0

reported-suc : (previous now : List ℕ) (own a n k : ℕ) → growth_in (reported previous now own a (suc n)) k ≡ cond (is_reported own (change_of previous now a)) (counts k (change_of previous now a)) 0 + growth_in (reported previous now own (a + 1) n) k
reported-suc previous now own a n k =
    elim (is_reported own (change_of previous now a)) as (λ b. sum_by (counts k) (cond b (change_of previous now a ∷ reported previous now own (a + 1) n) (reported previous now own (a + 1) n)) ≡ cond b (counts k (change_of previous now a)) 0 + growth_in (reported previous now own (a + 1) n) k) [
      | true ↦ sum_by-cons (counts k) (change_of previous now a) (reported previous now own (a + 1) n)
      | false ↦ omega arith
    ]

counts-other : (previous now : List ℕ) (own a k : ℕ) → a ≢ k → cond (is_reported own (change_of previous now a)) (counts k (change_of previous now a)) 0 ≡ 0
counts-other previous now own a k ne = rw (ne_eqb a k ne) (elim (is_reported own (change_of previous now a)) as (λ b. ◌≡◌ {A = ℕ} (cond b 0 0) 0) [ true ↦ refl | false ↦ refl ])

reported-before : (previous now : List ℕ) (own a n k : ℕ) → k < a → growth_in (reported previous now own a n) k ≡ 0
reported-before previous now own a zero k lt = refl
reported-before previous now own a (suc n) k lt =
    let others = reported-before previous now own (a + 1) n k (omega arith) in
    omega (arith, reported-suc previous now own a n k, others, counts-other previous now own a k (omega arith))

counts-own : (previous now : List ℕ) (own a : ℕ) → a ≢ own → cond (is_reported own (change_of previous now a)) (counts a (change_of previous now a)) 0 ≡ field now a - field previous a
counts-own previous now own a ne =
    elim (cases_lt 0 (field now a - field previous a)) [
      | inl lt ↦ rw (ne_eqb a own ne, lt-ltb 0 (field now a - field previous a) lt, eq-eqb a a refl) refl
      | inr le ↦ rw (ne_eqb a own ne, le-ltb 0 (field now a - field previous a) le) (omega arith)
    ]

reported-there : (previous now : List ℕ) (own a n k : ℕ) → a ≤ k → k < a + n → k ≢ own → growth_in (reported previous now own a n) k ≡ field now k - field previous k
reported-there previous now own a zero k le lt ne = absurd (omega arith)
reported-there previous now own a (suc n) k le lt ne =
    elim (cases_eq a k) [
      | inl e ↦
          let others = reported-before previous now own (a + 1) n k (omega arith) in
          let here : cond (is_reported own (change_of previous now a)) (counts k (change_of previous now a)) 0 ≡ field now k - field previous k = subst (λ (i : ℕ). i ≢ own → cond (is_reported own (change_of previous now a)) (counts i (change_of previous now a)) 0 ≡ field now i - field previous i) e (counts-own previous now own a) ne in
          omega (arith, reported-suc previous now own a n k, others, here)
      | inr far ↦
          let others = reported-there previous now own (a + 1) n k (omega arith) (omega arith) ne in
          omega (arith, reported-suc previous now own a n k, others, counts-other previous now own a k far)
    ]

-- the differences say of each other field by how much it grew
pub growth_in-differences : (previous now : List ℕ) (own k : ℕ) → k < length now → k ≢ own → growth_in (differences previous now own) k ≡ field now k - field previous k
growth_in-differences previous now own k lt ne = reported-there previous now own 0 (length now) k (omega arith) (omega arith) ne

are_fields : (previous now : List ℕ) (own : ℕ) → All (λ (d : Change). d.field < length now) (differences previous now own)
are_fields previous now own =
    All-filter (is_reported own) (λ (d : Change). d.field < length now) (map (change_of previous now) (range_with_len 0 (length now)))
    (All-map (λ (d : Change). d.field < length now) (change_of previous now) (range_with_len 0 (length now))
    (All-from_get_or (λ (k : ℕ). k < length now) (range_with_len 0 (length now)) 0
    (λ i lt. let short : i < length now = omega (arith, length-range_with_len 0 (length now)) in omega (arith, get_or-range_with_len 0 (length now) i 0 short))))

-- ---- one frame

-- what is kept at a sender before its next frame
record IsReady (size sender number : ℕ) (previous : List ℕ) (kept : List (List ℕ)) : Type 0 where
  senders : length kept ≡ size
  last : time_of kept sender ≡ previous
  fields : length previous ≡ size
  next : number ≡ field previous sender + 1

is_member : (size sender number : ℕ) (previous time : List ℕ) → IsLater size sender (number + 1) previous time → sender < size
is_member size sender number previous time later =
    elim (cases_lt sender size) [
      | inl lt ↦ lt
      | inr le ↦ absurd (omega (arith, get_or_past time sender 0 (omega (arith, later.has_size)), later.own))
    ]

expands_back : (size sender number : ℕ) (previous time : List ℕ) (c : CastFields) (kept : List (List ℕ)) → sender < size → IsReady size sender number previous kept → IsLater size sender number previous time → TellsDifference sender number previous time c
    → Expands kept c time (set kept sender time)
expands_back size sender number previous time c kept member ready later tells =
    let last : time_of kept c.sender ≡ previous = ap (time_of kept) tells.sent_by ∙ ready.last in
    let own : field time c.sender ≡ first_number c = ap (field time) tells.sent_by ∙ later.own ∙ sym tells.numbered in
    record {
      members = record {
        sender = omega (arith, tells.sent_by, ready.senders);
        changes = rw (tells.changes, ready.senders, ← later.has_size) (are_fields previous time sender);
      };
      some = one_has_some c.load tells.alone;
      next = tells.numbered ∙ ready.next ∙ ap (λ (j : ℕ). field previous j + 1) (sym tells.sent_by) ∙ ap (λ (t : List ℕ). field t c.sender + 1) (sym last);
      grown = rw last (record {
        size = later.has_size ∙ sym ready.fields;
        own = own;
        others = λ k lt ne.
            let other : k ≢ sender = λ e. ne (e ∙ sym tells.sent_by) in
            let growth : growth_in c.changes k ≡ field time k - field previous k = ap (λ (ds : List Change). growth_in ds k) tells.changes ∙ growth_in-differences previous time sender k (omega (arith, later.has_size, ready.fields)) other in
            omega (arith, growth, later.grown k, later.in_range k);
      });
      kept = ap (λ (j : ℕ). set kept j time) (sym tells.sent_by) ∙ ap (set kept c.sender) (sym (kept_is_given c time tells.alone own));
    }

ready_again : (size sender number : ℕ) (previous time : List ℕ) (kept : List (List ℕ)) → sender < size → IsReady size sender number previous kept → IsLater size sender number previous time → IsReady size sender (number + 1) time (set kept sender time)
ready_again size sender number previous time kept member ready later = record {
  senders = length-set kept sender time ∙ ready.senders;
  last = get_or-set_same kept sender time [] (omega (arith, ready.senders));
  fields = later.has_size;
  next = ap (λ (n : ℕ). n + 1) (sym later.own);
}

-- ---- all frames

all_back : (size sender number : ℕ) (previous : List ℕ) (times : List (List ℕ)) (casts : List CastFields) (kept : List (List ℕ)) → IsReady size sender number previous kept → AreSendersTimes size sender number previous times → TellDifferences sender number previous times casts
    → (new : List (List ℕ)) × ExpandsAll kept casts times new
all_back size sender number previous [] [] kept ready are tell = (kept, refl)
all_back size sender number previous [] (c ∷ casts) kept ready are tell = absurd tell
all_back size sender number previous (time ∷ times) [] kept ready are tell = absurd tell
all_back size sender number previous (time ∷ times) (c ∷ casts) kept ready are tell =
    let member = is_member size sender (field previous sender) previous time (subst (λ (n : ℕ). IsLater size sender n previous time) ready.next are.0) in
    let rest = all_back size sender (number + 1) time times casts (set kept sender time) (ready_again size sender number previous time kept member ready are.0) are.1 tell.1 in
    (rest.0, (set kept sender time, expands_back size sender number previous time c kept member ready are.0 tell.0, rest.1))

-- where the first time is of member `sender`, the group has it
starts : (size sender : ℕ) → sender < size → IsReady size sender 1 (replicate size 0) (replicate size (replicate size 0))
starts size sender member = record {
  senders = length-replicate size (replicate size 0);
  last = get_or-replicate size sender (replicate size 0) [] member;
  fields = length-replicate size 0;
  next = sym (ap (λ (n : ℕ). n + 1) (get_or-replicate size sender 0 0 member));
}

pub differences_expand_back : DifferencesExpandBack
differences_expand_back size sender [] [] are tell = (replicate size (replicate size 0), refl)
differences_expand_back size sender [] (c ∷ casts) are tell = absurd tell
differences_expand_back size sender (time ∷ times) casts are tell =
    all_back size sender 1 (replicate size 0) (time ∷ times) casts (replicate size (replicate size 0)) (starts size sender (is_member size sender 0 (replicate size 0) time are.0)) are tell

at_each : (size : ℕ) (all : List CastFields) (sender number : ℕ) (previous : List ℕ) (times : List (List ℕ)) (casts : List CastFields) → TellDifferences sender number previous times casts
    → AllByRecursion (λ given. given.1 ≡ expanded_time size all given.0.sender (first_number given.0)) (zip casts times)
    → (s at : ℕ) → s < length times → at ≡ number + s → expanded_time size all sender at ≡ get_or times s []
at_each size all sender number previous [] casts tell sums s at lt is = absurd (omega arith)
at_each size all sender number previous (time ∷ times) [] tell sums s at lt is = absurd tell
at_each size all sender number previous (time ∷ times) (c ∷ casts) tell sums zero at lt is =
    ap (λ (n : ℕ). expanded_time size all sender n) (omega (arith, tell.0.numbered)) ∙ ap (λ (j : ℕ). expanded_time size all j (first_number c)) (sym tell.0.sent_by) ∙ sym sums.0
at_each size all sender number previous (time ∷ times) (c ∷ casts) tell sums (suc s) at lt is =
    at_each size all sender (number + 1) time times casts tell.1 sums.1 s at (omega arith) (omega arith)

pub differences_add_up : DifferencesAddUp
differences_add_up size sender times casts are tell s lt =
    let back = differences_expand_back size sender times casts are tell in
    at_each size casts sender 1 (replicate size 0) times casts tell (times_are_sums size casts times back.0 back.1) s (s + 1) lt (omega arith)
