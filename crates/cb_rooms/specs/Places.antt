-- How the lines of a conference lie in its fields: each room with its lines, each name with the place of its room, the last lines
-- as they are printed.
use Rattle.std.specs.Prelude.{◌≡◌, ℕ, zero, suc, Bool, List, [], ◌∷◌, ◌++◌, map, filter_map, slice_get, Option, Some, option_and_then, string_bytes, String, Vec, bytes_eq}
use Rattle.std.specs.List.{AllByRecursion, list_any, position_or_len}
use Rattle.circular_buffer.specs.Buffer.{keep_last}
use Rattle.indexmap.specs.IndexMap.{IndexMap}
use Rattle.cb_times.specs.declared.name.Name.{Name}
use Rattle.cb_rooms.specs.declared.shown.Shown.{Shown}
use Rattle.cb_rooms.specs.Line.{IsName}
use Rattle.cb_rooms.specs.View.{ViewLine, line_named, line_text, line_in, rooms_of, lines_in}
use Rattle.cb_rooms.specs.Conference.{IsScreen}

-- a room with its lines
abbrev pub Room : Type 0
Room = List ℕ × List ViewLine

abbrev pub room_of_entry : {Y Z : Type 0} → String Y × Vec Shown Z → Room
room_of_entry e = (string_bytes e.0, map (line_in (string_bytes e.0)) e.1.items)

abbrev pub rooms_seen : {Y Z S : Type 0} → IndexMap (String Y) (Vec Shown Z) S → List Room
rooms_seen rooms = map room_of_entry rooms.entries

-- the line of a name, in the room at its place
abbrev pub line_at_place : List Room → Name × ℕ → Option ViewLine
line_at_place rooms place = option_and_then (λ room. line_named room.1 place.0) (slice_get rooms place.1)

-- the lines, in the order of the names
unfoldable pub lines_of : List Room → List (Name × ℕ) → List ViewLine
lines_of rooms places = filter_map (line_at_place rooms) places

-- there is a room of this name
abbrev pub has_room_seen : List Room → List ℕ → Bool
has_room_seen rooms name = list_any (λ room. bytes_eq name room.0) rooms

-- one more line in the room at this place
abbrev pub with_line_at : List Room → ℕ → Shown → List Room
with_line_at [] place shown = []
with_line_at (room ∷ rooms) zero shown = (room.0, room.1 ++ line_in room.0 shown ∷ []) ∷ rooms
with_line_at (room ∷ rooms) (suc place) shown = room ∷ with_line_at rooms place shown

-- ---- the fields that hold these lines

abbrev pub by_room : List ViewLine → List Room
by_room lines = map (λ room. (room, lines_in room lines)) (rooms_of lines)

abbrev pub place_of : List ViewLine → List ℕ → ℕ
place_of lines room = position_or_len (bytes_eq room) (rooms_of lines)

abbrev pub by_name : List ViewLine → List (Name × ℕ)
by_name lines = map (λ l. (l.name, place_of lines l.room)) lines

abbrev pub printed : ℕ → List ViewLine → List (List ℕ)
printed last lines = map line_text (keep_last last lines)

-- a line of a message that there can be, found by its name
pub record IsOwnLine (lines : List ViewLine) (line : ViewLine) : Type 0 where
  pub name : IsName line.name
  pub found : line_named lines line.name ≡ Some line

pub record Holds (rooms : List Room) (places : List (Name × ℕ)) (screen : List (List ℕ)) (last : ℕ) (lines : List ViewLine) : Type 0 where
  pub in_rooms : rooms ≡ by_room lines
  pub by_names : places ≡ by_name lines
  pub on_screen : screen ≡ printed last lines
  pub own : AllByRecursion (IsOwnLine lines) lines
  pub width : IsScreen last
