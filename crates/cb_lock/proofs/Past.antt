-- A receipt for each entry that there is when the sharing begins.
use Rattle.std.proofs.Common.{◌≡◌, ℕ, ◌+◌, ◌<◌, ◌≤◌, List, [], ◌∷◌, ◌++◌, length, map, drop, get_or, refl, sym, ap, ◌∙◌, arith}
use Rattle.std.proofs.lemmas.List.{append_assoc, append-nil, drop_all, length-map}
use Rattle.cb_history.specs.declared.history.Entry.{Entry}
use Rattle.cb_history.specs.Facts.{EntryFields, entry_fields}
use Rattle.cb_lock.specs.Receipts.{ReceiptFields, receipts_behind, receipts_of_history}
use Rattle.cb_lock.proofs.Checking.{item_at}

-- as many as entries
pub as_many : (count : ℕ) (es : List EntryFields) → length (receipts_behind count es) ≡ length es
as_many count [] = refl
as_many count (e ∷ es) = omega (arith, as_many (count + 1) es)

-- these receipts, so many, and then those of the entries from this one on are all
abbrev pub AreBehind : List Entry → ℕ → List ReceiptFields → ℕ → Type 0
AreBehind entries i receipts count = receipts ++ receipts_behind count (map entry_fields (drop i entries)) ≡ receipts_of_history (map entry_fields entries)

next : (entries : List Entry) (z : Entry) (i : ℕ) (receipts : List ReceiptFields) (count : ℕ) → AreBehind entries i receipts count → i < length entries → z ≡ get_or entries i z
    → AreBehind entries (i + 1) (receipts ++ record { place = count + 1; entry = entry_fields z } ∷ []) (count + 1)
next entries z i receipts count behind within is =
    append_assoc receipts (record { place = count + 1; entry = entry_fields z } ∷ []) (receipts_behind (count + 1) (map entry_fields (drop (i + 1) entries)))
    ∙ ap (λ (es : List Entry). receipts ++ receipts_behind count (map entry_fields es)) (sym (item_at entries i z within is))
    ∙ behind

pub one_more : (entries : List Entry) (z : Entry) (i : ℕ) (receipts after : List ReceiptFields) (count more : ℕ) → AreBehind entries i receipts count → i < length entries → z ≡ get_or entries i z
    → after ≡ receipts ++ record { place = count + 1; entry = entry_fields z } ∷ [] → more ≡ count + 1 → AreBehind entries (i + 1) after more
one_more entries z i receipts after count more behind within is added counted =
    ap (λ (rs : List ReceiptFields). rs ++ receipts_behind more (map entry_fields (drop (i + 1) entries))) added
    ∙ ap (λ (n : ℕ). (receipts ++ record { place = count + 1; entry = entry_fields z } ∷ []) ++ receipts_behind n (map entry_fields (drop (i + 1) entries))) counted
    ∙ next entries z i receipts count behind within is

pub all_there : (entries : List Entry) (i : ℕ) (receipts : List ReceiptFields) (count : ℕ) → AreBehind entries i receipts count → length entries ≤ i → receipts ≡ receipts_of_history (map entry_fields entries)
all_there entries i receipts count behind all =
    sym (append-nil receipts)
    ∙ ap (λ (es : List Entry). receipts ++ receipts_behind count (map entry_fields es)) (sym (drop_all i entries all))
    ∙ behind

pub counted : (entries : List Entry) (receipts : List ReceiptFields) → receipts ≡ receipts_of_history (map entry_fields entries) → length receipts ≡ length entries
counted entries receipts are = ap (λ (rs : List ReceiptFields). length rs) are ∙ as_many 0 (map entry_fields entries) ∙ length-map entries entry_fields
