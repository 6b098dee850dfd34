-- The line of a payload as a function, for the definitions that speak of what payloads say. The laws tie it to `IsPayload`.
use Rattle.std.specs.Prelude.{ℕ, ◌&&◌, nat_lt, ◌==◌, if◌then◌else◌, List, [], ◌∷◌, length, take, drop, Option, Some, None, Result, Ok, Err}
use Rattle.cb_varint.specs.declared.fault.NumberFault.{NumberFault}
use Rattle.cb_varint.specs.Reading.{number_at as number_and_length}
use Rattle.cb_times.specs.declared.group.TheConstants.{MOST_MEMBERS}
use Rattle.cb_times.specs.declared.name.Name.{Name}
use Rattle.cb_rooms.specs.declared.line.TheConstants.{LONGEST_PAYLOAD}
use Rattle.cb_rooms.specs.Line.{LineFields, SayLine, AnswerLine, is_room, is_text, say_kind, answer_kind}

infixl 10 ◌>>=◌
abbrev pub ◌>>=◌ : {A B : Type 0} → Option A → (A → Option B) → Option B
(Some x) >>= f = f x
None >>= f = None

-- a number, and the bytes behind it
abbrev pub behind_number : List ℕ → Result (ℕ × ℕ) NumberFault → Option (ℕ × List ℕ)
behind_number bytes (Ok x) = Some (x.0, drop x.1 bytes)
behind_number bytes (Err fault) = None

abbrev pub number_at : List ℕ → Option (ℕ × List ℕ)
number_at bytes = behind_number bytes (number_and_length bytes)

-- so many bytes, and those behind them
abbrev pub parts_at : ℕ → List ℕ → Option (List ℕ × List ℕ)
parts_at n bytes = if nat_lt (length bytes) n then None else Some (take n bytes, drop n bytes)

-- the bytes, where they are the name of a room, or a text
abbrev pub room_at : List ℕ → Option (List ℕ)
room_at bytes = if is_room bytes then Some bytes else None

abbrev pub text_at : List ℕ → Option (List ℕ)
text_at bytes = if is_text bytes then Some bytes else None

-- the name of a message
abbrev pub name_at : ℕ → ℕ → Option Name
name_at sender number =
    if nat_lt sender MOST_MEMBERS && nat_lt 0 number then Some (record { sender = sender; number = number }) else None

-- something said, where the one is the name of a room and the other a text
abbrev pub said_at : List ℕ → List ℕ → Option LineFields
said_at name rest = do
  room ← room_at name
  text ← text_at rest
  Some (SayLine room text)

unfoldable pub say_at : List ℕ → Option LineFields
say_at bytes = do
  size ← number_at bytes
  parts ← parts_at size.0 size.1
  said_at parts.0 parts.1

-- an answer to this message, where it can be one and the rest is a text
abbrev pub answered_at : ℕ → ℕ → List ℕ → Option LineFields
answered_at sender number rest = do
  question ← name_at sender number
  text ← text_at rest
  Some (AnswerLine question text)

unfoldable pub answer_at : List ℕ → Option LineFields
answer_at bytes = do
  sender ← number_at bytes
  number ← number_at sender.1
  answered_at sender.0 number.0 number.1

abbrev pub kind_at : List ℕ → Option LineFields
kind_at [] = None
kind_at (kind ∷ bytes) =
    if kind == say_kind then say_at bytes else
    if kind == answer_kind then answer_at bytes else None

unfoldable pub line_at : List ℕ → Option LineFields
line_at bytes = if nat_lt LONGEST_PAYLOAD (length bytes) then None else kind_at bytes
