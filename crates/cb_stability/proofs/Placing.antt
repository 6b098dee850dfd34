-- What the order of the frames says of the place of one more, and of the frames behind the first ones.
use Rattle.std.proofs.Common.{◌≡◌, ℕ, zero, suc, ◌+◌, ◌-◌, ◌<◌, ◌≤◌, Bool, true, ◌&&◌, List, [], ◌∷◌, ◌++◌, length, take, drop, leb, ltb, sym, ◌∙◌, ap, arith, refl, inl, inr}
use Rattle.std.specs.Prelude.{Some, None, if◌then◌else◌, ◌==◌, slice_get, slice_set}
use Rattle.std.specs.List.{list_all, prefix_len}
use Rattle.std.proofs.lemmas.Bool.{true≢false, cases_lt, lt-leb, lt-ltb, le-leb, le-ltb}
use Rattle.std.proofs.lemmas.List.{length-drop}
use Rattle.std.proofs.lemmas.Bool.Decides.{nat_tests}
use Rattle.std.proofs.lemmas.Option.{none-some, same_Some}
use Rattle.circular_buffer.specs.Buffer.{last_item}
use Rattle.cb_stability.specs.declared.ring.Spanned.{Spanned}
use Rattle.cb_stability.specs.Relays.{relayed, placed, with_place, AreInOrder, IsRelays}

-- ---- where a frame has its place

-- how many frames at the front begin at this number or below it
abbrev pub begun : ℕ → List Spanned → ℕ
begun number frames = prefix_len (λ frame. leb frame.first number) frames

abbrev pub all_begun : ℕ → List Spanned → Bool
all_begun number frames = list_all (λ frame. leb frame.first number) frames

pub placed-at : (frame : Spanned) (frames : List Spanned) → placed frame frames ≡ take (begun frame.first frames) frames ++ frame ∷ drop (begun frame.first frames) frames
placed-at frame [] = refl
placed-at frame (next ∷ others) =
    elim (cases_lt frame.first next.first)
    as (λ _. placed frame (next ∷ others) ≡ take (begun frame.first (next ∷ others)) (next ∷ others) ++ frame ∷ drop (begun frame.first (next ∷ others)) (next ∷ others)) [
      | inl lt ↦ rw (lt-leb next.first frame.first lt, lt-ltb frame.first next.first lt) refl
      | inr le ↦
          let n = begun frame.first others in
          let e : 1 + n ≡ suc n = omega arith in
          rw (le-leb next.first frame.first le, le-ltb frame.first next.first le, e)
          (ap (λ (rest : List Spanned). next ∷ rest) (placed-at frame others))
    ]

pub begun_within : (number : ℕ) (frames : List Spanned) → begun number frames ≤ length frames
begun_within number [] = omega arith
begun_within number (frame ∷ frames) =
    elim (cases_lt number frame.first) as (λ _. begun number (frame ∷ frames) ≤ length (frame ∷ frames)) [
      | inl lt ↦ rw (lt-leb frame.first number lt) (omega arith)
      | inr le ↦ rw (le-leb frame.first number le) (omega (arith, begun_within number frames))
    ]

pub placed_last : (frame : Spanned) (frames : List Spanned) → all_begun frame.first frames ≡ true → placed frame frames ≡ frames ++ frame ∷ []
placed_last frame [] all = refl
placed_last frame (next ∷ others) all =
    elim (cases_lt frame.first next.first) as (λ _. placed frame (next ∷ others) ≡ (next ∷ others) ++ frame ∷ []) [
      | inl lt ↦ absurd (true≢false (sym all ∙ ap (λ b. b && all_begun frame.first others) (lt-leb next.first frame.first lt)))
      | inr le ↦
          let rest : all_begun frame.first others ≡ true = sym (ap (λ b. b && all_begun frame.first others) (le-leb next.first frame.first le)) ∙ all in
          rw (le-ltb frame.first next.first le) (ap (λ (rest : List Spanned). next ∷ rest) (placed_last frame others rest))
    ]

at_in_order : (least place : ℕ) (frames : List Spanned) (frame : Spanned) → AreInOrder least frames → slice_get frames place ≡ Some frame
    → least ≤ frame.first
at_in_order least place [] frame order is = absurd (none-some frame is)
at_in_order least zero (next ∷ others) frame order is = rw (← same_Some next frame is) order.0
at_in_order least (suc place) (next ∷ others) frame order is = omega (arith, order.0, at_in_order next.first place others frame order.1 is)

-- the frame at a place begins above a number just where no more than so many frames begin by it
pub above_at : (number least place : ℕ) (frames : List Spanned) (frame : Spanned) → AreInOrder least frames → slice_get frames place ≡ Some frame
    → ltb number frame.first ≡ leb (begun number frames) place
above_at number least place [] frame order is = absurd (none-some frame is)
above_at number least zero (next ∷ others) frame order is =
    rw (← same_Some next frame is)
    (elim (cases_lt number next.first) as (λ _. ltb number next.first ≡ leb (begun number (next ∷ others)) zero) [
      | inl lt ↦ rw (lt-leb next.first number lt, lt-ltb number next.first lt) refl
      | inr le ↦ rw (le-leb next.first number le, le-ltb number next.first le) (grind (arith, nat_tests))
    ])
above_at number least (suc place) (next ∷ others) frame order is =
    elim (cases_lt number next.first) as (λ _. ltb number frame.first ≡ leb (begun number (next ∷ others)) (suc place)) [
      | inl lt ↦
          let low = at_in_order next.first place others frame order.1 is in
          rw (lt-leb next.first number lt, lt-ltb number frame.first (omega (arith, lt, low))) (grind (arith, nat_tests))
      | inr le ↦ rw (le-leb next.first number le) (above_at number next.first place others frame order.1 is ∙ grind (arith, nat_tests))
    ]

-- ---- how the frames behind its place make room

pub has_one : (place : ℕ) (frames : List Spanned) → place < length frames → slice_get frames place ≡ None → ⊥
has_one place [] low is = omega (arith, low)
has_one zero (frame ∷ frames) low is = none-some frame (sym is)
has_one (suc place) (frame ∷ frames) low is = has_one place frames (omega (arith, low)) is

pub as_many : (place : ℕ) (carried : Spanned) (frames : List Spanned) → length (slice_set frames place carried) ≡ length frames
as_many place carried [] = refl
as_many zero carried (frame ∷ frames) = refl
as_many (suc place) carried (frame ∷ frames) = ap (λ (n : ℕ). suc n) (as_many place carried frames)

-- a frame is carried on by one place
pub carried_on : (place : ℕ) (carried kept : Spanned) (frames : List Spanned) → slice_get frames place ≡ Some kept
    → take (suc place) (slice_set frames place carried) ++ kept ∷ drop (suc place) (slice_set frames place carried)
    ≡ take place frames ++ carried ∷ drop place frames
carried_on place carried kept [] is = absurd (none-some kept is)
carried_on zero carried kept (next ∷ others) is = rw (← same_Some next kept is) refl
carried_on (suc place) carried kept (next ∷ others) is = ap (λ (rest : List Spanned). next ∷ rest) (carried_on place carried kept others is)

-- ---- whether it is the last one's

last_behind : (frame next : Spanned) (others : List Spanned) → last_item (frame ∷ next ∷ others) ≡ last_item (next ∷ others)
last_behind frame next others =
    let e : suc (suc (length others)) - 1 ≡ suc (suc (length others) - 1) = omega arith in
    ap (slice_get (frame ∷ next ∷ others)) e

pub last_in_order : (least : ℕ) (frames : List Spanned) (last : Spanned) → AreInOrder least frames → last_item frames ≡ Some last → least ≤ last.first
last_in_order least [] last order is = absurd (none-some last is)
last_in_order least (frame ∷ []) last order is = rw (← same_Some frame last is) order.0
last_in_order least (frame ∷ next ∷ others) last order is =
    omega (arith, order.0, last_in_order frame.first (next ∷ others) last order.1 (sym (last_behind frame next others) ∙ is))

pub all_by_last : (number least : ℕ) (frames : List Spanned) (last : Spanned) → AreInOrder least frames → last_item frames ≡ Some last
    → all_begun number frames ≡ leb last.first number
all_by_last number least [] last order is = absurd (none-some last is)
all_by_last number least (frame ∷ []) last order is = rw (← same_Some frame last is) (grind (arith, nat_tests))
all_by_last number least (frame ∷ next ∷ others) last order is =
    let last_is = sym (last_behind frame next others) ∙ is in
    let low = last_in_order frame.first (next ∷ others) last order.1 last_is in
    let rest = all_by_last number frame.first (next ∷ others) last order.1 last_is in
    rw rest (grind (arith, nat_tests, low))

some_is_last : (frame : Spanned) (frames : List Spanned) → last_item (frame ∷ frames) ≡ None → ⊥
some_is_last frame [] is = none-some frame (sym is)
some_is_last frame (next ∷ others) is = some_is_last next others (sym (last_behind frame next others) ∙ is)

pub all_of_none : (number : ℕ) (frames : List Spanned) → last_item frames ≡ None → all_begun number frames ≡ true
all_of_none number [] is = refl
all_of_none number (frame ∷ frames) is = absurd (some_is_last frame frames is)

-- ---- what stays true

order_less : (less least : ℕ) (frames : List Spanned) → less ≤ least → AreInOrder least frames → AreInOrder less frames
order_less less least [] low order = tt
order_less less least (frame ∷ frames) low order = (omega (arith, low, order.0), order.1)

order_dropped : (k least : ℕ) (frames : List Spanned) → AreInOrder least frames → AreInOrder least (drop k frames)
order_dropped zero least frames order = order
order_dropped (suc k) least [] order = tt
order_dropped (suc k) least (frame ∷ frames) order = order_dropped k least frames (order_less least frame.first frames order.0 order.1)

order_placed : (least : ℕ) (frame : Spanned) (frames : List Spanned) → least ≤ frame.first → AreInOrder least frames → AreInOrder least (placed frame frames)
order_placed least frame [] low order = (low, tt)
order_placed least frame (next ∷ others) low order =
    elim (cases_lt frame.first next.first) as (λ _. AreInOrder least (placed frame (next ∷ others))) [
      | inl lt ↦ rw (lt-ltb frame.first next.first lt) (low, (omega (arith, lt), order.1))
      | inr le ↦ rw (le-ltb frame.first next.first le) (order.0, order_placed next.first frame others le order.1)
    ]

length-placed : (frame : Spanned) (frames : List Spanned) → length (placed frame frames) ≡ suc (length frames)
length-placed frame [] = refl
length-placed frame (next ∷ others) =
    elim (cases_lt frame.first next.first) as (λ _. length (placed frame (next ∷ others)) ≡ suc (suc (length others))) [
      | inl lt ↦ rw (lt-ltb frame.first next.first lt) refl
      | inr le ↦ rw (le-ltb frame.first next.first le) (ap (λ (n : ℕ). suc n) (length-placed frame others))
    ]

module _ (window : ℕ) (frames : List Spanned) (is : IsRelays (relayed window frames)) where
  pub has_place : length (with_place window frames) < window + window
  has_place =
      elim (cases_lt (length frames) (window + window)) as (λ _. length (with_place window frames) < window + window) [
        | inl lt ↦ rw (lt-leb (window + window) (length frames) lt) lt
        | inr le ↦ rw (le-leb (window + window) (length frames) le) (omega (arith, length-drop 1 frames, is.places, is.width.one_or_more))
      ]

  pub in_order_with_place : AreInOrder 0 (with_place window frames)
  in_order_with_place =
      elim (cases_lt (length frames) (window + window)) as (λ _. AreInOrder 0 (with_place window frames)) [
        | inl lt ↦ rw (lt-leb (window + window) (length frames) lt) is.in_order
        | inr le ↦ rw (le-leb (window + window) (length frames) le) (order_dropped 1 0 frames is.in_order)
      ]

  pub put_keeps : (frame : Spanned) → IsRelays (relayed window (placed frame (with_place window frames)))
  put_keeps frame = record {
    width = is.width;
    places = omega (arith, length-placed frame (with_place window frames), has_place);
    in_order = order_placed 0 frame (with_place window frames) (omega arith) in_order_with_place;
  }

  pub trim_keeps : (k : ℕ) → IsRelays (relayed window (drop k frames))
  trim_keeps k = record {
    width = is.width;
    places = omega (arith, length-drop k frames, is.places);
    in_order = order_dropped k 0 frames is.in_order;
  }

-- no more are kept than there are places, so all are taken where as many are kept
pub full_is : (window : ℕ) (frames : List Spanned) → length frames ≤ window + window
    → (if length frames == window + window then drop 1 frames else frames) ≡ with_place window frames
full_is window frames places = grind (arith, nat_tests, places)
