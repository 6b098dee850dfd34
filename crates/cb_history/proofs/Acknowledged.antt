-- No more is acknowledged than was cast.
use Rattle.std.proofs.Common.{◌≡◌, ℕ, ◌<◌, ◌≤◌, Bool, true, false, not, cond, eqb, ltb, List, [], ◌∷◌, ◌++◌, map, max, refl, ap, ◌∙◌, arith}
use Rattle.std.specs.List.{filter, flat_map, list_any, range_with_len}
use Rattle.std.proofs.lemmas.Bool.{ltb-false}
use Rattle.cb_frames.specs.Fields.{StatusFields, StatusFrame}
use Rattle.cb_diffs.specs.Expansion.{expanded_field}
use Rattle.cb_history.specs.Group.{Identity}
use Rattle.cb_history.specs.Facts.{Fact, OwnCast, CastReceived, StatusReceived, OwnStatus, casts_in}
use Rattle.cb_history.specs.View.{count, view}
use Rattle.cb_history.specs.Known.{greatest_of, value_in, reported_by, counted_by, acknowledged_of, acknowledged, least_of}
use Rattle.cb_history.specs.Answers.{delivered}
use Rattle.cb_history.specs.LegalFacts.{IsTaken, IsStep, AreLegalFacts, NoFacts, OneFactMore, AreFactsOf}
use Rattle.cb_history.specs.KnowledgeLaws.{AcknowledgedIsDelivered}
use Rattle.cb_history.proofs.Views.{test_true, not_true}
use Rattle.cb_history.proofs.Lists.{flat_map-append, in_is_among}
use Rattle.cb_history.proofs.Rising.{greatest_append, all_at_most, acknowledged_parts}
use Rattle.cb_history.proofs.Times.{count_grows}
use Rattle.cb_history.proofs.InTime.{times_are_reached}

-- ---- what times say, of any sender i

counted_below : (seat : Identity) (facts : List Fact) (k i : ℕ) → AreFactsOf seat facts → i < seat.group.size → greatest_of (counted_by (casts_in facts) (view seat.group.size facts) k i) ≤ delivered seat facts i
counted_below seat facts k i are small =
    all_at_most (λ m. eqb m.sender k) (λ m. expanded_field (casts_in facts) m.sender m.number i) (delivered seat facts i) (view seat.group.size facts)
    (λ m there by. times_are_reached seat facts m i are (in_is_among (view seat.group.size facts) m there) small)

-- ---- what statuses say

-- a status that was taken is of another
of_another : (seat : Identity) (facts : List Fact) (s : StatusFields) → IsTaken seat facts (StatusFrame s) → eqb s.sender seat.me ≡ false
of_another seat facts s t = not_true (eqb s.sender seat.me) (test_true (not (eqb s.sender seat.me)) _ t.change).0

-- so none says what the member itself delivered
none_reported_by_me : (seat : Identity) (facts : List Fact) (i : ℕ) → AreLegalFacts seat facts → flat_map (reported_by seat.me i) facts ≡ []
none_reported_by_me seat _ i NoFacts = refl
none_reported_by_me seat _ i (OneFactMore facts f before step) =
    flat_map-append (reported_by seat.me i) facts (f ∷ [])
    ∙ rw (none_reported_by_me seat facts i before) (ap (λ (ns : List ℕ). ns ++ []) (none_at f step))
  where
    none_at : (f : Fact) → IsStep seat facts f → reported_by seat.me i f ≡ []
    none_at (OwnCast c) step = refl
    none_at (CastReceived c) step = refl
    none_at (StatusReceived s) step = rw (of_another seat facts s step) refl
    none_at (OwnStatus s) step = refl

-- of itself the member acknowledges no more than it delivered
pub own_acknowledged_is_delivered : (seat : Identity) (facts : List Fact) (i : ℕ) → AreFactsOf seat facts → i < seat.group.size → acknowledged_of seat facts seat.me i ≤ delivered seat facts i
own_acknowledged_is_delivered seat facts i are small =
    rw (none_reported_by_me seat facts i are.facts_are) (counted_below seat facts seat.me i are small)

-- what a status that was taken says of this member's casts; of others' it may say anything
status_below : (seat : Identity) (facts : List Fact) (s : StatusFields) → IsTaken seat facts (StatusFrame s) → value_in s.values seat.me ≤ delivered seat facts seat.me
status_below seat facts s t =
    let other = of_another seat facts s t in
    ltb-false (delivered seat facts seat.me) (value_in s.values seat.me)
    (pick (eqb s.sender seat.me) (list_any (λ d. ltb (delivered seat facts d.field) d.amount) s.values) (ltb (delivered seat facts seat.me) (value_in s.values seat.me)) other t.possible)
  where
    pick : (b x y : Bool) → b ≡ false → cond b x y ≡ false → y ≡ false
    pick true x y e h = absurd cc
    pick false x y e h = h

reported_below : (seat : Identity) (facts : List Fact) (f : Fact) (k : ℕ) → IsStep seat facts f → greatest_of (reported_by k seat.me f ++ []) ≤ delivered seat facts seat.me
reported_below seat facts (OwnCast c) k step = omega arith
reported_below seat facts (CastReceived c) k step = omega arith
reported_below seat facts (StatusReceived s) k step = one_below (eqb s.sender k) (value_in s.values seat.me) (delivered seat facts seat.me) (status_below seat facts s step)
  where
    one_below : (b : Bool) (v n : ℕ) → v ≤ n → greatest_of (cond b (v ∷ []) [] ++ []) ≤ n
    one_below true v n le = omega (arith, le)
    one_below false v n le = omega arith
reported_below seat facts (OwnStatus s) k step = omega arith

all_reported_below : (seat : Identity) (facts : List Fact) (k : ℕ) → AreLegalFacts seat facts → greatest_of (flat_map (reported_by k seat.me) facts) ≤ count (view seat.group.size facts) seat.me
all_reported_below seat _ k NoFacts = omega arith
all_reported_below seat _ k (OneFactMore facts f before step) =
    let parts : greatest_of (flat_map (reported_by k seat.me) (facts ++ f ∷ [])) ≡ max (greatest_of (flat_map (reported_by k seat.me) facts)) (greatest_of (reported_by k seat.me f ++ [])) =
    ap greatest_of (flat_map-append (reported_by k seat.me) facts (f ∷ [])) ∙ greatest_append (flat_map (reported_by k seat.me) facts) (reported_by k seat.me f ++ []) in
    omega (arith, parts, all_reported_below seat facts k before, reported_below seat facts f k step, count_grows seat.group.size facts f seat.me)

-- ---- what is acknowledged

acknowledged_below : (seat : Identity) (facts : List Fact) (k : ℕ) → AreFactsOf seat facts → acknowledged seat facts k ≤ delivered seat facts seat.me
acknowledged_below seat facts k are =
    let parts = acknowledged_parts seat facts k seat.me in
    let counted = counted_below seat facts k seat.me are are.member in
    let reported = all_reported_below seat facts k are.facts_are in
    omega (arith, parts, counted, reported)

least_below : (g : ℕ → ℕ) (ks : List ℕ) (n : ℕ) → ((k : ℕ) → g k ≤ n) → least_of (map g ks) ≤ n
least_below g [] n each = omega arith
least_below g (k ∷ []) n each = each k
least_below g (k ∷ i ∷ ks) n each = let here = each k in omega (arith, here)

pub acknowledged_is_delivered : AcknowledgedIsDelivered
acknowledged_is_delivered seat facts are = (
  (λ k. acknowledged_below seat facts k are),
  least_below (acknowledged seat facts) (filter (λ k. not (eqb k seat.me)) (range_with_len 0 seat.group.size)) (delivered seat facts seat.me) (λ k. acknowledged_below seat facts k are),
)
