-- One more line among the entries of the rooms.
use Rattle.std.proofs.Common.{◌≡◌, ℕ, zero, suc, Bool, false, List, [], ◌∷◌, ◌++◌, map, refl, sym, ap, ◌∙◌, Some, None, slice_get}
use Rattle.std.specs.Prelude.{bytes_eq, string_bytes, String, Vec}
use Rattle.std.specs.List.{list_any}
use Rattle.std.specs.Map.{lookup, values_of}
use Rattle.std.proofs.lemmas.List.{map-append}
use Rattle.indexmap.specs.Layout.{set_value_at}
use Rattle.cb_rooms.specs.declared.shown.Shown.{Shown}
use Rattle.cb_rooms.specs.View.{ViewLine, line_in}
use Rattle.cb_rooms.specs.Places.{Room, room_of_entry, with_line_at, has_room_seen}
use Rattle.cb_rooms.proofs.Lists.{Some-injective, or_first, or_second}

module _ {Y Z : Type 0} where
  -- the lines at a place are one more
  pub row_pushed : (es : List (String Y × Vec Shown Z)) (k : ℕ) (v w : Vec Shown Z) (shown : Shown) → slice_get (values_of es) k ≡ Some v → w.items ≡ v.items ++ shown ∷ []
      → map room_of_entry (set_value_at es k w) ≡ with_line_at (map room_of_entry es) k shown
  row_pushed [] k v w shown at is = refl
  row_pushed (e ∷ es) zero v w shown at is =
      let room = string_bytes e.0 in
      let same : e.1 ≡ v = Some-injective e.1 v at in
      ap (λ (l : List ViewLine). (room, l) ∷ map room_of_entry es) (ap (map (line_in room)) (is ∙ ap (λ (u : Vec Shown Z). u.items ++ shown ∷ []) (sym same)) ∙ map-append (line_in room) e.1.items (shown ∷ []))
  row_pushed (e ∷ es) (suc k) v w shown at is = ap (λ (l : List Room). room_of_entry e ∷ l) (row_pushed es k v w shown at is)

  -- the lines at a place are the same
  pub row_kept : (es : List (String Y × Vec Shown Z)) (k : ℕ) (v w : Vec Shown Z) → slice_get (values_of es) k ≡ Some v → w.items ≡ v.items
      → map room_of_entry (set_value_at es k w) ≡ map room_of_entry es
  row_kept [] k v w at is = refl
  row_kept (e ∷ es) zero v w at is =
      let room = string_bytes e.0 in
      let same : e.1 ≡ v = Some-injective e.1 v at in
      ap (λ (l : List Shown). (room, map (line_in room) l) ∷ map room_of_entry es) (is ∙ ap (λ (u : Vec Shown Z). u.items) (sym same))
  row_kept (e ∷ es) (suc k) v w at is = ap (λ (l : List Room). room_of_entry e ∷ l) (row_kept es k v w at is)

  -- no entry has a name that no room has
  pub no_entry : (es : List (String Y × Vec Shown Z)) (room : List ℕ) → has_room_seen (map room_of_entry es) room ≡ false
      → lookup (λ (k : String Y). bytes_eq room (string_bytes k)) es ≡ None
  no_entry [] room none = refl
  no_entry (e ∷ es) room none =
      let apart : bytes_eq room (string_bytes e.0) ≡ false = or_first (bytes_eq room (string_bytes e.0)) _ none in
      rw apart (no_entry es room (or_second (bytes_eq room (string_bytes e.0)) _ none))

  -- a room with its first line
  pub row_opened : (es : List (String Y × Vec Shown Z)) (name : String Y) (v : Vec Shown Z) (room : List ℕ) (shown : Shown) → string_bytes name ≡ room → v.items ≡ shown ∷ []
      → map room_of_entry (es ++ (name, v) ∷ []) ≡ map room_of_entry es ++ (room, line_in room shown ∷ []) ∷ []
  row_opened es name v room shown is first =
      map-append room_of_entry es ((name, v) ∷ [])
      ∙ ap (λ (r : List ℕ). map room_of_entry es ++ (r, map (line_in r) v.items) ∷ []) is
      ∙ ap (λ (l : List Shown). map room_of_entry es ++ (room, map (line_in room) l) ∷ []) first

-- a name that no entry has is not found
pub not_found : {K X : Type 0} (test : K → Bool) (es : List (K × X)) → list_any (λ e. test e.0) es ≡ false → lookup test es ≡ None
not_found test [] none = refl
not_found test (e ∷ es) none =
    let apart : test e.0 ≡ false = or_first (test e.0) _ none in
    rw apart (not_found test es (or_second (test e.0) _ none))
