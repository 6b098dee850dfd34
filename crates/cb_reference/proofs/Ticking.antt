-- Steps of the loops of a tick.
use Rattle.std.proofs.Common.{◌≡◌, ℕ, ◌+◌, ◌-◌, ◌<◌, ◌≤◌, min, Bool, true, false, not, eqb, ltb, if◌then◌else◌, List, [], ◌∷◌, ◌++◌, map, length, take, Some, refl, sym, ap, ◌∙◌, append_assoc, arith}
use Rattle.std.specs.List.{filter, flat_map, range_with_len}
use Rattle.cb_frames.specs.declared.frame.TheConstants.{LAST_MEMBER, LAST_NUMBER, MOST_RANGES}
use Rattle.cb_frames.specs.declared.frame.Change.{Change}
use Rattle.cb_frames.specs.declared.frame.Range.{Range}
use Rattle.cb_frames.specs.Fields.{Carried, RequestFrame}
use Rattle.cb_frames.specs.Text.{AreRanges, KeepsRequestRules, text_of}
use Rattle.cb_history.specs.declared.answer.Outgoing.{Outgoing}
use Rattle.cb_history.specs.Group.{Identity}
use Rattle.cb_history.specs.Facts.{Fact, casts_in, is_there}
use Rattle.cb_history.specs.View.{count, view}
use Rattle.cb_history.specs.Known.{known, expanded_count, missing, ranges_of}
use Rattle.cb_history.specs.Answers.{request_to}
use Rattle.cb_reference.proofs.Walks.{row_more}
use Rattle.cb_history.proofs.Requests.{filtered_rise, ranges_are, taken_are, taken_few}

-- ---- the fields that are not 0

abbrev pub value_at : List Carried → ℕ → Change
value_at seen k = record { field = k; amount = count seen k }

abbrev pub is_not_zero : Change → Bool
is_not_zero d = ltb 0 d.amount

-- one field more, which counts or does not
pub value_more : (seen : List Carried) (n i : ℕ) (items new whole : List Change) → i < n → is_not_zero (value_at seen i) ≡ true → new ≡ items ++ value_at seen i ∷ []
    → items ++ filter is_not_zero (map (value_at seen) (range_with_len i (n - i))) ≡ whole → new ++ filter is_not_zero (map (value_at seen) (range_with_len (i + 1) (n - (i + 1)))) ≡ whole
value_more seen n i items new whole lt holds pushed h =
    let others = filter is_not_zero (map (value_at seen) (range_with_len (i + 1) (n - (i + 1)))) in
    let e : filter is_not_zero (map (value_at seen) (range_with_len i (n - i))) ≡ value_at seen i ∷ others = rw (row_more n i lt, holds) refl in
    rw pushed (append_assoc items (value_at seen i ∷ []) others ∙ ap (λ (ds : List Change). items ++ ds) (sym e) ∙ h)

pub value_none : (seen : List Carried) (n i : ℕ) (items new whole : List Change) → i < n → is_not_zero (value_at seen i) ≡ false → new ≡ items
    → items ++ filter is_not_zero (map (value_at seen) (range_with_len i (n - i))) ≡ whole → new ++ filter is_not_zero (map (value_at seen) (range_with_len (i + 1) (n - (i + 1)))) ≡ whole
value_none seen n i items new whole lt fails same h =
    let others = filter is_not_zero (map (value_at seen) (range_with_len (i + 1) (n - (i + 1)))) in
    let e : filter is_not_zero (map (value_at seen) (range_with_len i (n - i))) ≡ others = rw (row_more n i lt, fails) refl in
    rw same (ap (λ (ds : List Change). items ++ ds) (sym e) ∙ h)

-- ---- ranges

-- a range before others, with the first of which it becomes one where they touch
abbrev pub opened : Range → List Range → List Range
opened r [] = r ∷ []
opened r (s ∷ ranges) = if eqb s.first (r.last + 1) then record { first = r.first; last = s.last } ∷ ranges else r ∷ s ∷ ranges

-- ---- requests

-- to these members
abbrev pub requests_to : Identity → List Fact → List ℕ → List Outgoing
requests_to seat facts members = flat_map (λ i. request_to seat i (ranges_of (missing seat facts i))) (filter (λ i. not (eqb i seat.me)) members)

-- The missing numbers keep the rules as ranges, where they fit,
pub missing_are : (seat : Identity) (facts : List Fact) (i : ℕ) → known facts i ≤ LAST_NUMBER → AreRanges 1 (ranges_of (missing seat facts i))
missing_are seat facts i fits =
    let low = expanded_count (casts_in facts) i in
    let high = min (known facts i) (count (view seat.group.size facts) i + seat.group.window) in
    let bound : high ≤ LAST_NUMBER = omega (arith, fits) in
    ranges_are 1 (missing seat facts i) (filtered_rise (λ n. not (is_there (casts_in facts) i n)) (low + 1) (high - low) 1 (omega arith) (λ k lt. omega (arith, lt, bound)))

-- and so does the request for them, cut to the most that one may have.
pub request_keeps : (group requester asked : ℕ) (ranges cut : List Range) → requester ≤ LAST_MEMBER → asked ≤ LAST_MEMBER → 1 ≤ length ranges → AreRanges 1 ranges → cut ≡ take MOST_RANGES ranges
    → KeepsRequestRules (record { group = group; requester = requester; asked = asked; ranges = cut })
request_keeps group requester asked [] cut small low some are is = absurd (omega (arith, some))
request_keeps group requester asked (r ∷ ranges) cut small low some are is =
    rw is
    (record {
      requester = small;
      asked = low;
      some = omega arith;
      few = taken_few MOST_RANGES (r ∷ ranges);
      ranges = taken_are MOST_RANGES 1 (r ∷ ranges) are;
    })

-- the request where something is missing
pub some_request : (seat : Identity) (i : ℕ) (ranges : List Range) → 1 ≤ length ranges
    → record { to = Some i; bytes = text_of (RequestFrame (record { group = seat.group.number; requester = seat.me; asked = i; ranges = take MOST_RANGES ranges })) } ∷ [] ≡ request_to seat i ranges
some_request seat i [] some = absurd (omega (arith, some))
some_request seat i (r ∷ ranges) some = refl

-- one member more, and the member itself
pub requests_more : (seat : Identity) (facts : List Fact) (n i : ℕ) (items new whole : List Outgoing) → i < n → not (eqb i seat.me) ≡ true → new ≡ items ++ request_to seat i (ranges_of (missing seat facts i))
    → items ++ requests_to seat facts (range_with_len i (n - i)) ≡ whole → new ++ requests_to seat facts (range_with_len (i + 1) (n - (i + 1))) ≡ whole
requests_more seat facts n i items new whole lt other pushed h =
    let one = request_to seat i (ranges_of (missing seat facts i)) in
    let others = requests_to seat facts (range_with_len (i + 1) (n - (i + 1))) in
    let e : requests_to seat facts (range_with_len i (n - i)) ≡ one ++ others = rw (row_more n i lt, other) refl in
    rw pushed (append_assoc items one others ∙ ap (λ (out : List Outgoing). items ++ out) (sym e) ∙ h)

pub requests_same : (seat : Identity) (facts : List Fact) (n i : ℕ) (items new whole : List Outgoing) → i < n → not (eqb i seat.me) ≡ false → new ≡ items
    → items ++ requests_to seat facts (range_with_len i (n - i)) ≡ whole → new ++ requests_to seat facts (range_with_len (i + 1) (n - (i + 1))) ≡ whole
requests_same seat facts n i items new whole lt own same h =
    let others = requests_to seat facts (range_with_len (i + 1) (n - (i + 1))) in
    let e : requests_to seat facts (range_with_len i (n - i)) ≡ others = rw (row_more n i lt, own) refl in
    rw same (ap (λ (out : List Outgoing). items ++ out) (sym e) ∙ h)
