-- The view of a conference: which lines a member has been shown, and what follows from them.
use Rattle.std.specs.Prelude.{ℕ, Bool, ◌&&◌, not, ◌==◌, if◌then◌else◌, List, [], ◌∷◌, ◌++◌, map, filter, fold, find, flat_map, Option, Some, None, is_some, option_map, option_to_list, bytes_eq, string_bytes, codes}
use Rattle.std.specs.List.{list_any}
use Rattle.circular_buffer.specs.Buffer.{keep_last}
use Rattle.cb_times.specs.declared.name.Name.{Name}
use Rattle.cb_times.specs.Name.{name_text}
use Rattle.cb_rooms.specs.declared.shown.Shown.{Shown}
use Rattle.cb_rooms.specs.declared.shown.Showing.{Showing}
use Rattle.cb_rooms.specs.declared.shown.Showing.TheVariants as showings
use Rattle.cb_rooms.specs.Line.{LineFields, SayLine, AnswerLine}
use Rattle.cb_rooms.specs.Reading.{line_at}

-- a line that was shown: of which message, in which room, in answer to which message, and what it says
pub record ViewLine : Type 0 where
  pub name : Name
  pub room : List ℕ
  pub question : Option Name
  pub text : List ℕ

abbrev pub view_line : Name → List ℕ → Option Name → List ℕ → ViewLine
view_line name room question text = record { name = name; room = room; question = question; text = text }

abbrev pub is_same : Name → Name → Bool
is_same a b = a.sender == b.sender && a.number == b.number

-- the line of the message with this name
abbrev pub line_named : List ViewLine → Name → Option ViewLine
line_named lines name = find (λ l. is_same name l.name) lines

-- the message with this name has a line
abbrev pub has_line : List ViewLine → Name → Bool
has_line lines name = is_some (line_named lines name)

-- The line that a payload adds: what is said stands in its room, an answer in the room of its question's line, if that is there.
abbrev pub line_of : List ViewLine → Name → LineFields → Option ViewLine
line_of lines name (SayLine room text) = Some (view_line name room None text)
line_of lines name (AnswerLine question text) =
    option_map (λ l. view_line name l.room (Some question) text) (line_named lines question)

abbrev pub line_said : List ViewLine → Name → Option LineFields → Option ViewLine
line_said lines name None = None
line_said lines name (Some line) = line_of lines name line

-- a message whose name has a line already adds none
unfoldable pub added : List ViewLine → Name → List ℕ → Option ViewLine
added lines name payload = if has_line lines name then None else line_said lines name (line_at payload)

unfoldable pub lines_after : List ViewLine → Name → List ℕ → List ViewLine
lines_after lines name payload = lines ++ option_to_list (added lines name payload)

-- the view of messages, as their names and payloads, from the first on
unfoldable pub conference_view : List (Name × List ℕ) → List ViewLine
conference_view messages = fold (λ lines message. lines_after lines message.0 message.1) [] messages

-- what became of a message that is shown where these lines are held
abbrev pub line_showing : List ViewLine → Option LineFields → Showing
line_showing lines None = showings.NotALine
line_showing lines (Some (SayLine room text)) = showings.Shown
line_showing lines (Some (AnswerLine question text)) = if has_line lines question then showings.Shown else showings.Orphan

unfoldable pub showing : List ViewLine → Name → List ℕ → Showing
showing lines name payload = if has_line lines name then showings.Again else line_showing lines (line_at payload)

-- ---- what is read of the lines

-- a line that is shown in a room
abbrev pub line_in : List ℕ → Shown → ViewLine
line_in room shown = view_line shown.name room shown.question (string_bytes shown.text)

-- each of the lists once, where it first stands
abbrev pub each_once : List (List ℕ) → List (List ℕ)
each_once [] = []
each_once (x ∷ xs) = x ∷ filter (λ y. not (bytes_eq x y)) (each_once xs)

-- the rooms, in the order in which they were first seen
abbrev pub rooms_of : List ViewLine → List (List ℕ)
rooms_of lines = each_once (map (λ l. l.room) lines)

-- there is a line in this room
abbrev pub has_room : List ViewLine → List ℕ → Bool
has_room lines room = list_any (bytes_eq room) (rooms_of lines)

-- the lines of a room, in the order shown
abbrev pub lines_in : List ℕ → List ViewLine → List ViewLine
lines_in room lines = filter (λ l. bytes_eq room l.room) lines

-- the same of a room that was seen
unfoldable pub lines_of_room : List ViewLine → List ℕ → Option (List ViewLine)
lines_of_room lines room = if has_room lines room then Some (lines_in room lines) else None

-- how a line is printed: `[room] i.s text`, an answer to k.t as `[room] i.s re k.t text`
abbrev pub question_text : Option Name → List ℕ
question_text None = []
question_text (Some question) = codes " re " ++ name_text question

unfoldable pub line_text : ViewLine → List ℕ
line_text l = codes "[" ++ l.room ++ codes "] " ++ name_text l.name ++ question_text l.question ++ codes " " ++ l.text ++ codes "\n"

-- the last lines over all rooms
unfoldable pub screen_text : ℕ → List ViewLine → List ℕ
screen_text last lines = flat_map line_text (keep_last last lines)
