-- The fields of a conference after one more line.
use Rattle.std.proofs.Common.{◌≡◌, ℕ, false, List, [], ◌∷◌, ◌++◌, map, length, sym, ap, subst, ◌∙◌, Some, slice_get}
use Rattle.std.specs.Prelude.{string_bytes, String, Vec}
use Rattle.circular_buffer.specs.Buffer.{keep_last}
use Rattle.std.proofs.lemmas.List.{map-append, length-map}
use Rattle.cb_rooms.specs.declared.shown.Shown.{Shown}
use Rattle.cb_rooms.specs.declared.conference.Conference.TheInside.{Inside}
use Rattle.cb_rooms.specs.Line.{IsName}
use Rattle.cb_rooms.specs.Conference.{Held, held}
use Rattle.cb_rooms.specs.View.{ViewLine, has_line, has_room, rooms_of, lines_in, line_in, line_text}
use Rattle.cb_rooms.specs.Places.{room_of_entry, rooms_seen, with_line_at, lines_of, by_room, Holds}
use Rattle.cb_rooms.specs.Fields.{held_in, HoldsLines}
use Rattle.cb_rooms.proofs.Holding.{holds_again, holds_new, stands_as, keep_mapped}

-- there are as many entries as rooms
pub rooms_count : {Y Z : Type 0} (es : List (String Y × Vec Shown Z)) (lines : List ViewLine) → map room_of_entry es ≡ by_room lines → length es ≡ length (rooms_of lines)
rooms_count es lines e =
    sym (length-map es room_of_entry) ∙ ap length e ∙ length-map (rooms_of lines) (λ (room : List ℕ). (room, lines_in room lines))

-- the screen with one more line
pub screen_pushed : {Y : Type 0} (items : List (String Y)) (line : String Y) (n : ℕ) (text : List ℕ) → string_bytes line ≡ text
    → map string_bytes (keep_last n (items ++ line ∷ [])) ≡ keep_last n (map string_bytes items ++ text ∷ [])
screen_pushed items line n text e =
    keep_mapped string_bytes n (items ++ line ∷ [])
    ∙ ap (keep_last n) (map-append string_bytes items (line ∷ []))
    ∙ ap (λ (t : List ℕ). keep_last n (map string_bytes items ++ t ∷ [])) e

module _ (c d : Inside) (h : Held) (e : held_in c ≡ h) (inv : HoldsLines c) (l : ViewLine) (named : IsName l.name) (new : has_line h.lines l.name ≡ false) (k : ℕ)
    (places : d.places.entries ≡ c.places.entries ++ (l.name, k) ∷ [])
    (screen : map string_bytes d.screen.items ≡ keep_last c.screen.capacity (map string_bytes c.screen.items ++ line_text l ∷ []))
    (wide : d.screen.capacity ≡ c.screen.capacity) where
  here : Holds (rooms_seen c.rooms) c.places.entries (map string_bytes c.screen.items) c.screen.capacity h.lines
  here = subst (λ (x : Held). Holds (rooms_seen c.rooms) c.places.entries (map string_bytes c.screen.items) c.screen.capacity x.lines) e inv

  same_screen : d.screen.capacity ≡ h.screen
  same_screen = wide ∙ ap (λ (x : Held). x.screen) e

  pub closes_again : (shown : Shown) → slice_get (rooms_of h.lines) k ≡ Some l.room → line_in l.room shown ≡ l
      → rooms_seen d.rooms ≡ with_line_at (rooms_seen c.rooms) k shown
      → HoldsLines d × (held_in d ≡ held h.screen (h.lines ++ l ∷ []))
  closes_again shown at is rooms =
      let after = stands_as _ _ _ _ _ (holds_again (rooms_seen c.rooms) c.places.entries (map string_bytes c.screen.items) c.screen.capacity h.lines here l named new k shown at is)
      (rooms_seen d.rooms) d.places.entries (map string_bytes d.screen.items) d.screen.capacity rooms places screen wide in (
        after.0,
        ap (λ (n : ℕ). held n (lines_of (rooms_seen d.rooms) d.places.entries)) same_screen ∙ ap (held h.screen) after.1,
      )

  pub closes_new : has_room h.lines l.room ≡ false → k ≡ length c.rooms.entries
      → rooms_seen d.rooms ≡ rooms_seen c.rooms ++ (l.room, l ∷ []) ∷ []
      → HoldsLines d × (held_in d ≡ held h.screen (h.lines ++ l ∷ []))
  closes_new has last rooms =
      let count : k ≡ length (rooms_of h.lines) = last ∙ rooms_count c.rooms.entries h.lines here.in_rooms in
      let after = stands_as _ _ _ _ _ (holds_new (rooms_seen c.rooms) c.places.entries (map string_bytes c.screen.items) c.screen.capacity h.lines here l named new k has count)
      (rooms_seen d.rooms) d.places.entries (map string_bytes d.screen.items) d.screen.capacity rooms places screen wide in (
        after.0,
        ap (λ (n : ℕ). held n (lines_of (rooms_seen d.rooms) d.places.entries)) same_screen ∙ ap (held h.screen) after.1,
      )
