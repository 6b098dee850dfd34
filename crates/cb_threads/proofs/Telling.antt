-- Counts of what entries tell.
use Rattle.std.proofs.Common.{◌≡◌, ℕ, ◌+◌, ◌<◌, ◌≤◌, List, [], ◌∷◌, ◌++◌, length, length-append, drop, refl, sym, ap, get_or, subst, ◌∙◌, arith}
use Rattle.std.proofs.lemmas.List.{drop_more, map-append}
use Rattle.cb_history.specs.Facts.{EntryFields}
use Rattle.cb_lock.specs.Receipts.{ReceiptFields, SeatState}
use Rattle.cb_lock.specs.Claims.{receipts_of}
use Rattle.cb_threads.specs.declared.report.Tally.{Tally}
use Rattle.cb_links.specs.Counts.{greatest, held}
use Rattle.cb_threads.specs.Reports.{casts_of, deliveries_of, entries_in, entries_reported, Adds, IsTally, no_tally}

-- the counts with all of these entries
abbrev pub sums : Tally → List EntryFields → Tally
sums t es = record { casts = held (t.casts + casts_of es); deliveries = held (t.deliveries + deliveries_of es); entries = held (t.entries + length es) }

-- no count is above the greatest value
pub record Fits (t : Tally) : Type 0 where
  pub casts : t.casts ≤ greatest
  pub deliveries : t.deliveries ≤ greatest
  pub count : t.entries ≤ greatest

-- the counts so far, of which those that are left make the whole
pub record Goes (rest : List EntryFields) (goal t : Tally) : Type 0 where
  pub adds : Adds t rest goal
  pub fits : Fits t

pub begins : (t : Tally) (es : List EntryFields) → Fits t → Goes es (sums t es) t
begins t es fits = record { adds = record { casts = refl; deliveries = refl; count = refl }; fits = fits }

casts_append : (es fs : List EntryFields) → casts_of (es ++ fs) ≡ casts_of es + casts_of fs
casts_append [] fs = omega arith
casts_append (e ∷ es) fs = let h = casts_append es fs in omega (arith, h)

deliveries_append : (es fs : List EntryFields) → deliveries_of (es ++ fs) ≡ deliveries_of es + deliveries_of fs
deliveries_append [] fs = omega arith
deliveries_append (e ∷ es) fs = let h = deliveries_append es fs in omega (arith, h)

-- some of those that are left were added
pub goes_on : (es rest : List EntryFields) (goal t u : Tally) → Goes (es ++ rest) goal t → Adds t es u → Goes rest goal u
goes_on es rest goal t u g added = record {
  adds = record {
    casts = omega (arith, casts_append es rest, g.adds.casts, added.casts);
    deliveries = omega (arith, deliveries_append es rest, g.adds.deliveries, added.deliveries);
    count = omega (arith, length-append es rest, g.adds.count, added.count);
  };
  fits = record { casts = omega (arith, added.casts); deliveries = omega (arith, added.deliveries); count = omega (arith, added.count) };
}

-- none are left
pub ends_at : (s t : Tally) (es : List EntryFields) → Goes [] (sums s es) t → Adds s es t
ends_at s t es g = record {
  casts = omega (arith, g.adds.casts, g.fits.casts);
  deliveries = omega (arith, g.adds.deliveries, g.fits.deliveries);
  count = omega (arith, g.adds.count, g.fits.count);
}

-- of no counts they are the counts of the entries
pub is_tally : (t : Tally) (es : List EntryFields) → Adds no_tally es t → IsTally es t
is_tally t es a = record {
  casts_are = omega (arith, a.casts);
  deliveries_are = omega (arith, a.deliveries);
  entries_are = omega (arith, a.count);
}

-- the item of a loop
pub item_at : {X : Type 0} (xs : List X) (i : ℕ) (x : X) → i < length xs → x ≡ get_or xs i x → drop i xs ≡ x ∷ drop (i + 1) xs
item_at xs i x within is = drop_more xs i x within ∙ ap (λ (y : _). y ∷ drop (i + 1) xs) (sym is)

-- the entries of a seat were added
pub seats_go_on : (seats : List SeatState) (i : ℕ) (seat : SeatState) (goal t u : Tally) → drop i seats ≡ seat ∷ drop (i + 1) seats → Goes (entries_in (drop i seats)) goal t → Adds t (entries_reported seat.receipts) u
    → Goes (entries_in (drop (i + 1) seats)) goal u
seats_go_on seats i seat goal t u at g added =
    let split : entries_in (drop i seats) ≡ entries_reported seat.receipts ++ entries_in (drop (i + 1) seats) =
    ap entries_in at ∙ map-append (λ (r : ReceiptFields). r.entry) seat.receipts (receipts_of (drop (i + 1) seats)) in
    goes_on (entries_reported seat.receipts) (entries_in (drop (i + 1) seats)) goal t u (subst (λ (es : List EntryFields). Goes es goal t) split g) added
