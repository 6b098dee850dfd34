-- The steps of a tick.
use Rattle.std.proofs.Common.{◌≡◌, ◌≢◌, ℕ, zero, suc, ◌+◌, ◌-◌, ◌<◌, ◌≤◌, Bool, true, false, not, eqb, ltb, List, [], ◌∷◌, ◌++◌, length, map, take, Option, Some, Ok, refl, sym, ap, subst, ◌∙◌, append_assoc, arith}
use Rattle.std.specs.List.{filter, flat_map, range_with_len}
use Rattle.std.proofs.lemmas.Bool.{lt-leb, ne_eqb}
use Rattle.cb_times.specs.Order.{field}
use Rattle.cb_frames.specs.declared.frame.Change.{Change}
use Rattle.cb_frames.specs.Fields.{FrameFields, HelpFrame, StatusFields}
use Rattle.cb_frames.specs.Text.{KeepsHelpRules, KeepsRules, payload_bytes}
use Rattle.cb_frames.specs.declared.frame.Range.{Range}
use Rattle.cb_frames.specs.declared.frame.TheConstants.{LONGEST_PAYLOAD, MOST_RANGES}
use Rattle.cb_gaps.specs.Request.{request_for, help_for}
use Rattle.cb_history.specs.declared.answer.Outgoing.{Outgoing}
use Rattle.cb_history.specs.Group.{Identity}
use Rattle.cb_history.specs.Facts.{EntryFields, Fact, facts_of}
use Rattle.cb_history.specs.Helping.{first_where, help_answer, help_for as help_asked}
use Rattle.cb_history.specs.Known.{missing, ranges_of}
use Rattle.cb_history.specs.Answers.{request_to, delivered, status_of}
use Rattle.cb_history.specs.LegalFacts.{AreFactsOf}
use Rattle.cb_history.proofs.Requests.{own_frames_have_texts}
use Rattle.cb_member.specs.declared.delivery.Delivery.{Delivery}
use Rattle.cb_member.specs.State.{HasDelivered}
use Rattle.cb_member.specs.Telling.{values_saying}
use Rattle.cb_member.proofs.Reading.{time_at, time_long}

pub row_more : (n i : ℕ) → i < n → range_with_len i (n - i) ≡ i ∷ range_with_len (i + 1) (n - (i + 1))
row_more n i lt =
    let e : n - i ≡ suc (n - (i + 1)) = omega (arith, lt) in
    ap (range_with_len i) e

-- ---- the fields that are not 0

abbrev pub value_at : List ℕ → ℕ → Change
value_at time k = record { field = k; amount = field time k }

abbrev pub is_not_zero : Change → Bool
is_not_zero d = ltb 0 d.amount

-- one field more, which counts or does not
pub value_more : (time : List ℕ) (n i : ℕ) (items new whole : List Change) → i < n → is_not_zero (value_at time i) ≡ true → new ≡ items ++ value_at time i ∷ []
    → items ++ filter is_not_zero (map (value_at time) (range_with_len i (n - i))) ≡ whole → new ++ filter is_not_zero (map (value_at time) (range_with_len (i + 1) (n - (i + 1)))) ≡ whole
value_more time n i items new whole lt holds pushed h =
    let others = filter is_not_zero (map (value_at time) (range_with_len (i + 1) (n - (i + 1)))) in
    let e : filter is_not_zero (map (value_at time) (range_with_len i (n - i))) ≡ value_at time i ∷ others = rw (row_more n i lt, holds) refl in
    rw pushed (append_assoc items (value_at time i ∷ []) others ∙ ap (λ (ds : List Change). items ++ ds) (sym e) ∙ h)

pub value_none : (time : List ℕ) (n i : ℕ) (items new whole : List Change) → i < n → is_not_zero (value_at time i) ≡ false → new ≡ items
    → items ++ filter is_not_zero (map (value_at time) (range_with_len i (n - i))) ≡ whole → new ++ filter is_not_zero (map (value_at time) (range_with_len (i + 1) (n - (i + 1)))) ≡ whole
value_none time n i items new whole lt fails same h =
    let others = filter is_not_zero (map (value_at time) (range_with_len (i + 1) (n - (i + 1)))) in
    let e : filter is_not_zero (map (value_at time) (range_with_len i (n - i))) ≡ others = rw (row_more n i lt, fails) refl in
    rw same (ap (λ (ds : List Change). items ++ ds) (sym e) ∙ h)

same_values : (f g : ℕ → ℕ) (a n : ℕ) → ((k : ℕ) → k < a + n → f k ≡ g k)
    → map (λ k. let d : Change = record { field = k; amount = f k } in d) (range_with_len a n) ≡ map (λ k. let d : Change = record { field = k; amount = g k } in d) (range_with_len a n)
same_values f g a zero same = refl
same_values f g a (suc n) same =
    ap (λ (x : ℕ). let d : Change = record { field = a; amount = x } in d ∷ map (λ k. let d : Change = record { field = k; amount = f k } in d) (range_with_len (a + 1) n)) (same a (omega arith))
    ∙ ap (λ (ds : List Change). let d : Change = record { field = a; amount = g a } in d ∷ ds) (same_values f g (a + 1) n (λ k lt. same k (omega (arith, lt))))

-- the time that is kept is the one that a status says
pub values_say_the_time : (seat : Identity) (facts : List Fact) (d : Delivery) → HasDelivered seat facts d → values_saying d.time ≡ (status_of seat facts).values
values_say_the_time seat facts d has =
    ap (λ (n : ℕ). filter is_not_zero (map (value_at d.time) (range_with_len 0 n))) (time_long seat facts d has)
    ∙ ap (filter is_not_zero) (same_values (field d.time) (delivered seat facts) 0 seat.group.size (λ k lt. time_at seat facts d k has (omega (arith, lt))))

-- ---- requests

-- the request is made from the ranges as the answer says
pub requested : (seat : Identity) (facts : List Fact) (i : ℕ) (ranges : List Range) (frame : FrameFields) → AreFactsOf seat facts → i < seat.group.size
    → ranges ≡ ranges_of (missing seat facts i) → Some frame ≡ request_for seat.group.number seat.me i ranges → KeepsRules frame × (length (payload_bytes frame) ≤ LONGEST_PAYLOAD)
requested seat facts i [] frame are asked is made = absurd cc
requested seat facts i (r ∷ ranges) frame are asked is made =
    let can = (own_frames_have_texts seat facts are).2 i r ranges asked (sym is) in
    let same : _ ≡ frame = some_frame _ _ (sym made) in
    (subst KeepsRules same can.0, subst (λ (f : FrameFields). length (payload_bytes f) ≤ LONGEST_PAYLOAD) same can.1)
  where
    some_frame : (a b : FrameFields) → Some a ≡ Some b → a ≡ b
    some_frame a b e = cc

-- so is a help frame, to a member of the group
pub helped : (seat : Identity) (facts : List Fact) (i k : ℕ) (ranges : List Range) (frame : FrameFields) → AreFactsOf seat facts → i < seat.group.size → k < seat.group.size
    → ranges ≡ ranges_of (missing seat facts i) → Some frame ≡ help_for seat.group.number seat.me k i ranges → KeepsRules frame × (length (payload_bytes frame) ≤ LONGEST_PAYLOAD)
helped seat facts i k [] frame are asked helper is made = absurd cc
helped seat facts i k (r ∷ ranges) frame are asked helper is made =
    let can = (own_frames_have_texts seat facts are).2 i r ranges asked (sym is) in
    let rules = can.0 in
    let few = are.group.size.at_most_sixty_four in
    let keeps : KeepsHelpRules (record { group = seat.group.number; requester = seat.me; helper = k; sender = i; ranges = take MOST_RANGES (r ∷ ranges) }) = record {
      requester = rules.requester;
      helper = omega (arith, helper, few);
      sender = rules.asked;
      some = rules.some;
      few = rules.few;
      ranges = rules.ranges;
    } in
    let same : HelpFrame _ ≡ frame = some_frame _ _ (sym made) in
    (subst KeepsRules same keeps, subst (λ (f : FrameFields). length (payload_bytes f) ≤ LONGEST_PAYLOAD) same can.1)
  where
    some_frame : (a b : FrameFields) → Some a ≡ Some b → a ≡ b
    some_frame a b e = cc

-- the first of some members for which something holds, where it does not hold of this one
pub first_behind : (p : ℕ → Bool) (n i : ℕ) → i < n → p i ≡ false → first_where p (range_with_len i (n - i)) ≡ first_where p (range_with_len (i + 1) (n - (i + 1)))
first_behind p n i lt fails = rw (row_more n i lt, fails) refl

-- the answer to a call for help with the casts of another member of the group
pub help_is_answered : (seat : Identity) (entries : List EntryFields) (i : ℕ) (out : Option Outgoing) → i < seat.group.size → i ≢ seat.me
    → out ≡ help_asked seat (facts_of entries) i (ranges_of (missing seat (facts_of entries) i)) → help_answer seat entries i ≡ Ok out
unfolding help_answer
help_is_answered seat entries i out within other is = rw (lt-leb seat.group.size i within, ne_eqb i seat.me other, is) refl

-- to these members
abbrev pub requests_to : Identity → List Fact → List ℕ → List Outgoing
requests_to seat facts members = flat_map (λ i. request_to seat i (ranges_of (missing seat facts i))) (filter (λ i. not (eqb i seat.me)) members)

-- one member more, and the member itself
pub requests_more : (seat : Identity) (facts : List Fact) (n i : ℕ) (items new whole : List Outgoing) → i < n → not (eqb i seat.me) ≡ true → new ≡ items ++ request_to seat i (ranges_of (missing seat facts i))
    → items ++ requests_to seat facts (range_with_len i (n - i)) ≡ whole → new ++ requests_to seat facts (range_with_len (i + 1) (n - (i + 1))) ≡ whole
requests_more seat facts n i items new whole lt other pushed h =
    let one = request_to seat i (ranges_of (missing seat facts i)) in
    let others = requests_to seat facts (range_with_len (i + 1) (n - (i + 1))) in
    let e : requests_to seat facts (range_with_len i (n - i)) ≡ one ++ others = rw (row_more n i lt, other) refl in
    rw pushed (append_assoc items one others ∙ ap (λ (out : List Outgoing). items ++ out) (sym e) ∙ h)

pub requests_same : (seat : Identity) (facts : List Fact) (n i : ℕ) (items new whole : List Outgoing) → i < n → not (eqb i seat.me) ≡ false → new ≡ items
    → items ++ requests_to seat facts (range_with_len i (n - i)) ≡ whole → new ++ requests_to seat facts (range_with_len (i + 1) (n - (i + 1))) ≡ whole
requests_same seat facts n i items new whole lt own same h =
    let others = requests_to seat facts (range_with_len (i + 1) (n - (i + 1))) in
    let e : requests_to seat facts (range_with_len i (n - i)) ≡ others = rw (row_more n i lt, own) refl in
    rw same (ap (λ (out : List Outgoing). items ++ out) (sym e) ∙ h)

pub same_status : (a b : StatusFields) → a.group ≡ b.group → a.sender ≡ b.sender → a.values ≡ b.values → a ≡ b
same_status a b group sender values =
    ap (λ (n : ℕ). let s : StatusFields = record { group = n; sender = a.sender; values = a.values } in s) group
    ∙ ap (λ (n : ℕ). let s : StatusFields = record { group = b.group; sender = n; values = a.values } in s) sender
    ∙ ap (λ (ds : List Change). let s : StatusFields = record { group = b.group; sender = b.sender; values = ds } in s) values
