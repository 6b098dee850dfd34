-- Looking through the receipts, seat by seat.
use Rattle.std.proofs.Common.{◌≡◌, ℕ, suc, min, ◌+◌, ◌<◌, ◌≤◌, inl, inr, Bool, true, false, List, [], ◌∷◌, ◌++◌, length, set, get_or, drop, Option, Some, None, slice_get, refl, sym, ap, ◌∙◌, subst, arith}
use Rattle.std.proofs.lemmas.List.{append_assoc, append-nil, drop_all, drop_more, length-map}
use Rattle.cb_history.specs.Facts.{EntryFields}
use Rattle.cb_lock.specs.Receipts.{ReceiptFields, SeatState}
use Rattle.cb_lock.specs.Claims.{Claim, claim, IsRight, FirstWrong, entry_at, times, places_of, receipts_of, claims_of, claims_of_seat, claims_behind}
use Rattle.cb_lock.specs.Seen.{Marks, ChecksSeat, Checks}
use Rattle.cb_lock.proofs.Marking.{marks, each_once}

-- ---- within a seat: these places are marked, and what the rest finds is what all find

pub record SeatGoesOn (entries : List EntryFields) (before : List ℕ) (all rest : List ReceiptFields) (seen : List Bool) (last : ℕ) : Type 0 where
  pub now : List ℕ
  pub marked : Marks entries seen now
  pub places : now ++ places_of rest ≡ before ++ places_of all
  pub found : (place : Option ℕ) → FirstWrong entries (claims_of_seat now last rest) place → FirstWrong entries (claims_of_seat before 0 all) place

pub seat_starts : (entries : List EntryFields) (before : List ℕ) (all : List ReceiptFields) (seen : List Bool) → Marks entries seen before → SeatGoesOn entries before all all seen 0
seat_starts entries before all seen m = record { now = before; marked = m; places = refl; found = λ place f. f }

pub seat_goes_on : (entries : List EntryFields) (before : List ℕ) (all rest : List ReceiptFields) (r : ReceiptFields) (seen : List Bool) (last index : ℕ) (g : SeatGoesOn entries before all (r ∷ rest) seen last)
    → IsRight entries (claim g.now last r) → slice_get seen index ≡ Some false → r.place ≡ suc index → SeatGoesOn entries before all rest (set seen index true) r.place
seat_goes_on entries before all rest r seen last index g right at is = record {
  now = g.now ++ r.place ∷ [];
  marked = subst (λ (p : ℕ). Marks entries (set seen index true) (g.now ++ p ∷ [])) (sym is) (marks entries index seen g.now g.marked at);
  places = append_assoc g.now (r.place ∷ []) (places_of rest) ∙ g.places;
  found = λ place f. g.found place (inl (right, f));
}

pub seat_ends_wrong : (entries : List EntryFields) (before : List ℕ) (all rest : List ReceiptFields) (r : ReceiptFields) (seen : List Bool) (last : ℕ) (g : SeatGoesOn entries before all (r ∷ rest) seen last)
    → ¬ IsRight entries (claim g.now last r) → ChecksSeat entries before all seen (Some r.place)
seat_ends_wrong entries before all rest r seen last g wrong = record { found = g.found (Some r.place) (inr (wrong, refl)); marks = λ none. absurd cc }

pub seat_ends_right : (entries : List EntryFields) (before : List ℕ) (all : List ReceiptFields) (seen : List Bool) (last : ℕ) → SeatGoesOn entries before all [] seen last → ChecksSeat entries before all seen None
seat_ends_right entries before all seen last g = record {
  found = g.found None refl;
  marks = λ none. subst (Marks entries seen) (sym (append-nil g.now) ∙ g.places) g.marked;
}

-- what a receipt is found to be
pub right : (entries : List EntryFields) (seen : List Bool) (before : List ℕ) (last index : ℕ) (r : ReceiptFields) (e : EntryFields) → Marks entries seen before → r.place ≡ suc index → slice_get entries index ≡ Some e
    → slice_get seen index ≡ Some false → last < r.place → e ≡ r.entry → IsRight entries (claim before last r)
right entries seen before last index r e m place at mark above same = record {
  entry_is = ap (entry_at entries) place ∙ at ∙ ap (λ (x : EntryFields). Some x) same;
  new = ap (λ (p : ℕ). times p before) place ∙ m.marked index false mark;
  rises = above;
}

-- the item of a loop
pub item_at : {X : Type 0} (xs : List X) (i : ℕ) (x : X) → i < length xs → x ≡ get_or xs i x → drop i xs ≡ x ∷ drop (i + 1) xs
item_at xs i x within is = drop_more xs i x within ∙ ap (λ (y : _). y ∷ drop (i + 1) xs) (sym is)

-- behind the last seat
pub counted : (seats : List SeatState) (i count total most : ℕ) → length seats ≤ i → count ≤ most → min (count + length (receipts_of (drop i seats))) most ≡ total → count ≡ total
counted seats i count total most all fits is =
    let none : length (receipts_of (drop i seats)) ≡ 0 = ap (λ (ss : List SeatState). length (receipts_of ss)) (drop_all i seats all) in
    omega (arith, none, fits, is)

-- ---- from seat to seat

wrong_here : (entries : List EntryFields) (cs ds : List Claim) (p : ℕ) → FirstWrong entries cs (Some p) → FirstWrong entries (cs ++ ds) (Some p)
wrong_here entries [] ds p f = absurd cc
wrong_here entries (c ∷ cs) ds p (inl f) = inl (f.0, wrong_here entries cs ds p f.1)
wrong_here entries (c ∷ cs) ds p (inr f) = inr f

right_here : (entries : List EntryFields) (cs ds : List Claim) (place : Option ℕ) → FirstWrong entries cs None → FirstWrong entries ds place → FirstWrong entries (cs ++ ds) place
right_here entries [] ds place f g = g
right_here entries (c ∷ cs) ds place (inl f) g = inl (f.0, right_here entries cs ds place f.1 g)
right_here entries (c ∷ cs) ds place (inr f) g = let e = f.1 in absurd cc

pub record SeatsGoOn (entries : List EntryFields) (all rest : List SeatState) (seen : List Bool) : Type 0 where
  pub now : List ℕ
  pub marked : Marks entries seen now
  pub places : now ++ places_of (receipts_of rest) ≡ places_of (receipts_of all)
  pub found : (place : Option ℕ) → FirstWrong entries (claims_behind now rest) place → FirstWrong entries (claims_of all) place

pub seats_start : (entries : List EntryFields) (all : List SeatState) (seen : List Bool) → Marks entries seen [] → SeatsGoOn entries all all seen
seats_start entries all seen m = record { now = []; marked = m; places = refl; found = λ place f. f }

places_append : (xs ys : List ReceiptFields) → places_of (xs ++ ys) ≡ places_of xs ++ places_of ys
places_append [] ys = refl
places_append (x ∷ xs) ys = ap (λ (ps : List ℕ). x.place ∷ ps) (places_append xs ys)

pub seats_go_on : (entries : List EntryFields) (all rest : List SeatState) (s : SeatState) (seen after : List Bool) (g : SeatsGoOn entries all (s ∷ rest) seen) → ChecksSeat entries g.now s.receipts after None → SeatsGoOn entries all rest after
seats_go_on entries all rest s seen after g checked = record {
  now = g.now ++ places_of s.receipts;
  marked = checked.marks refl;
  places = append_assoc g.now (places_of s.receipts) (places_of (receipts_of rest)) ∙ ap (λ (ps : List ℕ). g.now ++ ps) (sym (places_append s.receipts (receipts_of rest))) ∙ g.places;
  found = λ place f. g.found place (right_here entries (claims_of_seat g.now 0 s.receipts) (claims_behind (g.now ++ places_of s.receipts) rest) place checked.found f);
}

pub seats_end_wrong : (entries : List EntryFields) (all rest : List SeatState) (s : SeatState) (seen after : List Bool) (p : ℕ) (g : SeatsGoOn entries all (s ∷ rest) seen) → ChecksSeat entries g.now s.receipts after (Some p) → Checks entries all (Some p)
seats_end_wrong entries all rest s seen after p g checked = record {
  found = g.found (Some p) (wrong_here entries (claims_of_seat g.now 0 s.receipts) (claims_behind (g.now ++ places_of s.receipts) rest) p checked.found);
  once = λ none. absurd cc;
}

pub seats_end_right : (entries : List EntryFields) (all : List SeatState) (seen : List Bool) → SeatsGoOn entries all [] seen → Checks entries all None
seats_end_right entries all seen g =
    let are : g.now ≡ places_of (receipts_of all) = sym (append-nil g.now) ∙ g.places in
    let m : Marks entries seen (places_of (receipts_of all)) = subst (Marks entries seen) are g.marked in
    record {
      found = g.found None refl;
      once = λ none enough k low high. each_once entries seen (places_of (receipts_of all)) m (omega (arith, enough, length-map (receipts_of all) (λ (r : ReceiptFields). r.place))) k low high;
    }

-- the same, by the index of a loop
pub seat_step : (entries : List EntryFields) (before : List ℕ) (all rest : List ReceiptFields) (r : ReceiptFields) (after : List ReceiptFields) (seen : List Bool) (last index : ℕ) → rest ≡ r ∷ after → SeatGoesOn entries before all rest seen last
    → ((now : List ℕ) → Marks entries seen now → IsRight entries (claim now last r)) → slice_get seen index ≡ Some false → r.place ≡ suc index → SeatGoesOn entries before all after (set seen index true) r.place
seat_step entries before all rest r after seen last index is g right at place =
    let now = subst (λ (rs : List ReceiptFields). SeatGoesOn entries before all rs seen last) is g in
    seat_goes_on entries before all after r seen last index now (right now.now now.marked) at place

pub seat_wrong : (entries : List EntryFields) (before : List ℕ) (all rest : List ReceiptFields) (r : ReceiptFields) (after : List ReceiptFields) (seen : List Bool) (last : ℕ) → rest ≡ r ∷ after → SeatGoesOn entries before all rest seen last
    → ((now : List ℕ) → Marks entries seen now → ¬ IsRight entries (claim now last r)) → ChecksSeat entries before all seen (Some r.place)
seat_wrong entries before all rest r after seen last is g wrong =
    let now = subst (λ (rs : List ReceiptFields). SeatGoesOn entries before all rs seen last) is g in
    seat_ends_wrong entries before all after r seen last now (wrong now.now now.marked)

pub seats_step : (entries : List EntryFields) (all rest : List SeatState) (s : SeatState) (behind : List SeatState) (seen after : List Bool) → rest ≡ s ∷ behind → SeatsGoOn entries all rest seen
    → ((now : List ℕ) → Marks entries seen now → ChecksSeat entries now s.receipts after None) → SeatsGoOn entries all behind after
seats_step entries all rest s behind seen after is g checks =
    let now = subst (λ (ss : List SeatState). SeatsGoOn entries all ss seen) is g in
    seats_go_on entries all behind s seen after now (checks now.now now.marked)

pub seats_wrong : (entries : List EntryFields) (all rest : List SeatState) (s : SeatState) (behind : List SeatState) (seen after : List Bool) (p : ℕ) → rest ≡ s ∷ behind → SeatsGoOn entries all rest seen
    → ((now : List ℕ) → Marks entries seen now → ChecksSeat entries now s.receipts after (Some p)) → Checks entries all (Some p)
seats_wrong entries all rest s behind seen after p is g checks =
    let now = subst (λ (ss : List SeatState). SeatsGoOn entries all ss seen) is g in
    seats_end_wrong entries all behind s seen after p now (checks now.now now.marked)
