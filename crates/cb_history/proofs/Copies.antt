-- Copies of entries, one after another.
use Rattle.std.proofs.Common.{◌≡◌, ℕ, ◌+◌, ◌<◌, List, [], ◌∷◌, ◌++◌, length, map, take, get_or, sym, ap, ◌∙◌}
use Rattle.std.proofs.lemmas.List.{map-append, map_more}
use Rattle.cb_history.specs.declared.history.Entry.{Entry}
use Rattle.cb_history.specs.Facts.{EntryFields, entry_fields}

pub one_more_copy : (copies entries : List Entry) (copy z : Entry) (i : ℕ) → map entry_fields copies ≡ map entry_fields (take i entries) → i < length entries → entry_fields copy ≡ entry_fields (get_or entries i z)
    → map entry_fields (copies ++ copy ∷ []) ≡ map entry_fields (take (i + 1) entries)
one_more_copy copies entries copy z i same lt e =
    map-append entry_fields copies (copy ∷ [])
    ∙ ap (λ (es : List EntryFields). es ++ entry_fields copy ∷ []) same
    ∙ ap (λ (f : EntryFields). map entry_fields (take i entries) ++ f ∷ []) e
    ∙ sym (map_more entry_fields entries i z lt)
