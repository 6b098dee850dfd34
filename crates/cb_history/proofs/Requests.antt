-- A request for what is missing can be written, and so can all that a member sends.
use Rattle.std.proofs.Common.{◌≡◌, ℕ, zero, suc, ◌+◌, ◌-◌, ◌<◌, ◌≤◌, ◌^◌, Bool, not, eqb, List, [], ◌∷◌, length, take, min, subst, arith}
use Rattle.std.specs.List.{AllByRecursion, filter, range_with_len}
use Rattle.std.proofs.lemmas.Bool.{cond_both, eqb-false}
use Rattle.cb_frames.specs.declared.frame.TheConstants.{LAST_NUMBER, MOST_RANGES}
use Rattle.cb_frames.specs.declared.frame.Range.{Range}
use Rattle.cb_frames.specs.Fields.{RequestFrame}
use Rattle.cb_frames.specs.Text.{ranges_from, AreRanges}
use Rattle.cb_frames.specs.Laws.{CanBeWritten}
use Rattle.cb_history.specs.Group.{Identity}
use Rattle.cb_history.specs.Facts.{Fact, casts_in, is_there}
use Rattle.cb_history.specs.View.{count, view}
use Rattle.cb_history.specs.Known.{known, expanded_count, missing, before_ranges, ranges_of}
use Rattle.cb_history.specs.LegalFacts.{AreFactsOf}
use Rattle.cb_history.specs.HistoryLaws.{OwnFramesHaveTexts}
use Rattle.cb_history.proofs.Counts.{known_are_numbers}
use Rattle.cb_history.proofs.Written.{cast_can, status_can}

-- rising numbers, each at least `low` and at most the greatest
abbrev pub Rise : ℕ → List ℕ → Type 0
Rise low [] = Unit {0}
Rise low (n ∷ ns) = (low ≤ n) × (n ≤ LAST_NUMBER) × Rise (n + 1) ns

pub filtered_rise : (p : ℕ → Bool) (a n low : ℕ) → low ≤ a → ((k : ℕ) → k < n → a + k ≤ LAST_NUMBER) → Rise low (filter p (range_with_len a n))
filtered_rise p a zero low le small = tt
filtered_rise p a (suc n) low le small =
    let here = small 0 (omega arith) in
    let later : (k : ℕ) → k < n → a + 1 + k ≤ LAST_NUMBER = λ k lt. let next = small (k + 1) (omega arith) in omega (arith, next) in
    cond_both (p a) (a ∷ filter p (range_with_len (a + 1) n)) (filter p (range_with_len (a + 1) n)) (Rise low)
    (λ yes. (le, omega (arith, here), filtered_rise p (a + 1) n (a + 1) (omega arith) later))
    (λ no. filtered_rise p (a + 1) n low (omega arith) later)

before_are : (low n : ℕ) (ranges : List Range) → low ≤ n → n ≤ LAST_NUMBER → AreRanges (n + 1) ranges → AreRanges low (before_ranges n ranges)
before_are low n [] le small are = (le, omega arith, small, tt)
before_are low n (r ∷ ranges) le small are =
    cond_both (eqb r.first (n + 1)) (record { first = n; last = r.last } ∷ ranges) (record { first = n; last = n } ∷ r ∷ ranges) (AreRanges low)
    (λ touches. (le, omega (arith, are.0, are.1), are.2, are.3))
    (λ apart. let ne = eqb-false r.first (n + 1) apart in (le, omega arith, small, (omega (arith, are.0, ne), are.1, are.2, are.3)))

pub ranges_are : (low : ℕ) (ns : List ℕ) → Rise low ns → AreRanges low (ranges_of ns)
ranges_are low [] rise = tt
ranges_are low (n ∷ ns) rise = before_are low n (ranges_of ns) rise.0 rise.1 (ranges_are (n + 1) ns rise.2)

pub taken_are : (j least : ℕ) (ranges : List Range) → AreRanges least ranges → AreRanges least (take j ranges)
taken_are zero least ranges are = tt
taken_are (suc j) least [] are = tt
taken_are (suc j) least (r ∷ ranges) are = (are.0, are.1, are.2, taken_are j (r.last + 2) ranges are.3)

pub taken_few : {A : Type 0} (j : ℕ) (xs : List A) → length (take j xs) ≤ j
taken_few zero xs = omega arith
taken_few (suc j) [] = omega arith
taken_few (suc j) (x ∷ xs) = let others = taken_few j xs in omega (arith, others)

ranges_small : (least : ℕ) (ranges : List Range) → AreRanges least ranges → AllByRecursion (λ n. n < 2 ^ 32) (ranges_from least ranges)
ranges_small least [] are = tt
ranges_small least (r ∷ ranges) are = (omega (arith, are.1, are.2), (omega (arith, are.2), ranges_small (r.last + 2) ranges are.3))

missing_rise : (seat : Identity) (facts : List Fact) (i : ℕ) → AreFactsOf seat facts → Rise 1 (missing seat facts i)
missing_rise seat facts i are =
    let low = expanded_count (casts_in facts) i in
    let high = min (known facts i) (count (view seat.group.size facts) i + seat.group.window) in
    let bound : high ≤ LAST_NUMBER = omega (arith, known_are_numbers seat facts i are) in
    filtered_rise (λ n. not (is_there (casts_in facts) i n)) (low + 1) (high - low) 1 (omega arith) (λ k lt. omega (arith, lt, bound))

request_can : (seat : Identity) (facts : List Fact) (i : ℕ) (r : Range) (ranges : List Range) → AreFactsOf seat facts → i < seat.group.size → ranges_of (missing seat facts i) ≡ r ∷ ranges
    → CanBeWritten (RequestFrame (record { group = seat.group.number; requester = seat.me; asked = i; ranges = take MOST_RANGES (r ∷ ranges) }))
request_can seat facts i r ranges are asked is =
    let group = are.group in
    let member = are.member in
    let all : AreRanges 1 (r ∷ ranges) = subst (AreRanges 1) is (ranges_are 1 (missing seat facts i) (missing_rise seat facts i are)) in
    let some : AreRanges 1 (take MOST_RANGES (r ∷ ranges)) = taken_are MOST_RANGES 1 (r ∷ ranges) all in
    let few : length (take MOST_RANGES (r ∷ ranges)) ≤ MOST_RANGES = taken_few MOST_RANGES (r ∷ ranges) in
    let few_members = group.size.at_most_sixty_four in (
      record {
        requester = omega (arith, member, few_members);
        asked = omega (arith, asked, few_members);
        some = omega arith;
        few = few;
        ranges = some;
      },
      omega arith,
      (group.number_fits, (omega (arith, member, few_members), (omega (arith, asked, few_members), (omega (arith, few), ranges_small 1 (take MOST_RANGES (r ∷ ranges)) some)))),
    )

pub own_frames_have_texts : OwnFramesHaveTexts
own_frames_have_texts seat facts are = (
  (λ load rules left short. cast_can seat facts load are.group are.member are.facts_are rules left short),
  status_can seat facts are.group are.member are.facts_are,
  (λ i r ranges asked is. request_can seat facts i r ranges are asked is),
)
