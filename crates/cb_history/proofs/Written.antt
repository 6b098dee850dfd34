-- The next own cast and the own status can be written.
use Rattle.std.proofs.Common.{◌≡◌, ◌≢◌, ℕ, zero, suc, ◌+◌, ◌-◌, ◌<◌, ◌≤◌, ◌^◌, Bool, true, false, not, eqb, ltb, List, [], ◌∷◌, length, map, refl, arith}
use Rattle.std.specs.List.{AllByRecursion, filter, range_with_len}
use Rattle.std.proofs.lemmas.Bool.{cond_both, ltb-true, eqb-false}
use Rattle.std.proofs.lemmas.List.FromFn.{length-map-range_with_len, get_or-map-range_with_len}
use Rattle.cb_times.specs.Order.{field}
use Rattle.cb_frames.specs.declared.frame.TheConstants.{LAST_NUMBER}
use Rattle.cb_frames.specs.declared.frame.Change.{Change}
use Rattle.cb_frames.specs.Fields.{Load, payloads_of, CastFrame, StatusFrame}
use Rattle.cb_frames.specs.Text.{pairs_from, RisesFrom, IsChange, IsValue, KeepsCastRules, KeepsStatusRules, KeepsLoadRules, IsLoad}
use Rattle.cb_frames.specs.Laws.{CanBeWritten}
use Rattle.cb_frames.proofs.Carried.{carries_few}
use Rattle.cb_diffs.specs.Differences.{change_of, is_reported, differences}
use Rattle.cb_history.specs.Load.{FitsFrame}
use Rattle.cb_history.specs.Group.{Identity, AreParameters}
use Rattle.cb_history.specs.Facts.{Fact}
use Rattle.cb_history.specs.View.{count, view, time_of}
use Rattle.cb_history.specs.Answers.{delivered, is_too_many, next_cast, status_of, upto_last_cast}
use Rattle.cb_history.specs.LegalFacts.{AreLegalFacts}
use Rattle.cb_history.proofs.Views.{test_true, not_true}
use Rattle.cb_history.proofs.Loads.{fitting_keeps_rules}
use Rattle.cb_history.proofs.Counts.{count_at_most_last, numbers_left}

-- ---- lists made from the fields in their order

rises_from : (p : Change → Bool) (g : ℕ → Change) → ((k : ℕ) → (g k).field ≡ k) → (a n least : ℕ) → least ≤ a → RisesFrom least (filter p (map g (range_with_len a n)))
rises_from p g is a zero least le = tt
rises_from p g is a (suc n) least le =
    cond_both (p (g a)) (g a ∷ filter p (map g (range_with_len (a + 1) n))) (filter p (map g (range_with_len (a + 1) n))) (RisesFrom least)
    (λ yes. (omega (arith, is a), rises_from p g is (a + 1) n ((g a).field + 1) (omega (arith, is a))))
    (λ no. rises_from p g is (a + 1) n least (omega arith))

pub each_from : (p : Change → Bool) (g : ℕ → Change) (P : Change → Type 0) (a n : ℕ) → ((k : ℕ) → k < a + n → p (g k) ≡ true → P (g k)) → AllByRecursion P (filter p (map g (range_with_len a n)))
each_from p g P a zero holds = tt
each_from p g P a (suc n) holds =
    cond_both (p (g a)) (g a ∷ filter p (map g (range_with_len (a + 1) n))) (filter p (map g (range_with_len (a + 1) n))) (AllByRecursion P)
    (λ yes. (holds a (omega arith) yes, each_from p g P (a + 1) n (λ k lt. holds k (omega arith))))
    (λ no. each_from p g P (a + 1) n (λ k lt. holds k (omega arith)))

few_from : (p : Change → Bool) (g : ℕ → Change) (a n : ℕ) → length (filter p (map g (range_with_len a n))) ≤ n
few_from p g a zero = omega arith
few_from p g a (suc n) =
    let others = few_from p g (a + 1) n in
    cond_both (p (g a)) (g a ∷ filter p (map g (range_with_len (a + 1) n))) (filter p (map g (range_with_len (a + 1) n))) (λ (ds : List Change). length ds ≤ suc n)
    (λ yes. omega (arith, others))
    (λ no. omega (arith, others))

abbrev AreSmall : List ℕ → Type 0
AreSmall ns = AllByRecursion (λ n. n < 2 ^ 32) ns

abbrev IsSmall : Change → Type 0
IsSmall d = (d.field < 2 ^ 32) × (d.amount < 2 ^ 32)

pairs_small : (least : ℕ) (ds : List Change) → AllByRecursion IsSmall ds → AreSmall (pairs_from least ds)
pairs_small least [] small = tt
pairs_small least (d ∷ ds) small = (omega (arith, small.0.0), (small.0.1, pairs_small (d.field + 1) ds small.1))

-- ---- the next cast

amount_below : (seat : Identity) (facts : List Fact) (previous : List ℕ) (k : ℕ) → seat.me < seat.group.size → AreLegalFacts seat facts → k < seat.group.size → field (time_of seat.group.size facts) k - field previous k ≤ LAST_NUMBER
amount_below seat facts previous k member legal lt =
    let at : field (time_of seat.group.size facts) k ≡ count (view seat.group.size facts) k = get_or-map-range_with_len (count (view seat.group.size facts)) 0 seat.group.size k k 0 lt (omega arith) in
    let bound = count_at_most_last seat facts k member legal in
    omega (arith, at, bound)

reported_says : (own : ℕ) (d : Change) → is_reported own d ≡ true → (d.field ≢ own) × (1 ≤ d.amount)
reported_says own d h =
    let both = test_true (not (eqb d.field own)) (ltb 0 d.amount) h in
    let some = ltb-true 0 d.amount both.1 in
    (eqb-false d.field own (not_true (eqb d.field own) both.0), omega (arith, some))

pub next_keeps : (seat : Identity) (facts : List Fact) (load : Load) → KeepsLoadRules (delivered seat facts seat.me + 1) load → seat.group.size ≤ 64 → seat.me < seat.group.size → KeepsCastRules (next_cast seat facts load)
next_keeps seat facts load rules few_members member =
    let previous = time_of seat.group.size (upto_last_cast facts) in
    let now = time_of seat.group.size facts in
    let size : length now ≡ seat.group.size = length-map-range_with_len (count (view seat.group.size facts)) 0 seat.group.size in
    record {
      sender = omega (arith, member, few_members);
      number = omega arith;
      changes = record {
        rising = rises_from (is_reported seat.me) (change_of previous now) (λ k. refl) 0 (length now) 0 (omega arith);
        each = each_from (is_reported seat.me) (change_of previous now) (IsChange seat.me) 0 (length now) (λ k lt reported.
            let says = reported_says seat.me (change_of previous now k) reported in
            record { index = omega (arith, lt, size, few_members); other = says.0; grown = says.1 });
      };
      load = rules;
    }

pub cast_can : (seat : Identity) (facts : List Fact) (load : Load) → AreParameters seat.group → seat.me < seat.group.size → AreLegalFacts seat facts → KeepsLoadRules (delivered seat facts seat.me + 1) load → delivered seat facts seat.me + length (payloads_of load) ≤ LAST_NUMBER → IsLoad load
    → CanBeWritten (CastFrame (next_cast seat facts load))
cast_can seat facts load group member legal rules left short =
    let previous = time_of seat.group.size (upto_last_cast facts) in
    let now = time_of seat.group.size facts in
    let size : length now ≡ seat.group.size = length-map-range_with_len (count (view seat.group.size facts)) 0 seat.group.size in
    let few_members = group.size.at_most_sixty_four in
    let fits = group.number_fits in
    let few : length (differences previous now seat.me) ≤ length now = few_from (is_reported seat.me) (change_of previous now) 0 (length now) in
    let small : AllByRecursion IsSmall (differences previous now seat.me) = each_from (is_reported seat.me) (change_of previous now) IsSmall 0 (length now) (λ k lt reported.
    let below = amount_below seat facts previous k member legal (omega (arith, lt, size)) in (omega (arith, lt, size, few_members), omega (arith, below))) in (
      next_keeps seat facts load rules few_members member,
      short,
      (
        fits,
        (
          omega (arith, member, few_members),
          (
            omega (arith, left, (carries_few (next_cast seat facts load) (next_keeps seat facts load rules few_members member)).some),
            (omega (arith, few, size, few_members), pairs_small 0 (differences previous now seat.me) small),
          ),
        ),
      ),
    )

-- so the next cast of a load that fits, where its messages are not too many
pub fitting_can : (seat : Identity) (facts : List Fact) (load : Load) → AreParameters seat.group → seat.me < seat.group.size → AreLegalFacts seat facts → FitsFrame load → is_too_many seat facts (length (payloads_of load)) ≡ false
    → CanBeWritten (CastFrame (next_cast seat facts load))
fitting_can seat facts load group member legal fits window =
    let left = numbers_left seat facts (length (payloads_of load)) window in
    cast_can seat facts load group member legal (fitting_keeps_rules (delivered seat facts seat.me + 1) load fits (omega (arith, left))) left fits.short

-- ---- the own status

pub status_keeps : (seat : Identity) (facts : List Fact) → seat.group.size ≤ 64 → seat.me < seat.group.size → KeepsStatusRules (status_of seat facts)
status_keeps seat facts few_members member =
    let value : ℕ → Change = λ k. record { field = k; amount = delivered seat facts k } in
    let some : Change → Bool = λ d. ltb 0 d.amount in
    record {
      sender = omega (arith, member, few_members);
      values = record {
        rising = rises_from some value (λ k. refl) 0 seat.group.size 0 (omega arith);
        each = each_from some value IsValue 0 seat.group.size (λ k lt reported.
            let positive = ltb-true 0 (delivered seat facts k) reported in
            record { index = omega (arith, lt, few_members); nonzero = omega (arith, positive) });
      };
    }

pub status_can : (seat : Identity) (facts : List Fact) → AreParameters seat.group → seat.me < seat.group.size → AreLegalFacts seat facts → CanBeWritten (StatusFrame (status_of seat facts))
status_can seat facts group member legal =
    let value : ℕ → Change = λ k. record { field = k; amount = delivered seat facts k } in
    let some : Change → Bool = λ d. ltb 0 d.amount in
    let few_members = group.size.at_most_sixty_four in
    let fits = group.number_fits in
    let few : length (filter some (map value (range_with_len 0 seat.group.size))) ≤ seat.group.size = few_from some value 0 seat.group.size in
    let small : AllByRecursion IsSmall (filter some (map value (range_with_len 0 seat.group.size))) = each_from some value IsSmall 0 seat.group.size (λ k lt reported.
    let below = count_at_most_last seat facts k member legal in (omega (arith, lt, few_members), omega (arith, below))) in (
      status_keeps seat facts few_members member,
      omega arith,
      (fits, (omega (arith, member, few_members), (omega (arith, few, few_members), pairs_small 0 (filter some (map value (range_with_len 0 seat.group.size))) small))),
    )
