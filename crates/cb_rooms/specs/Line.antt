-- Which bytes are the payload of which line.
use Rattle.std.specs.Prelude.{◌≡◌, ℕ, ◌≤◌, ◌<◌, ◌^◌, Bool, ◌&&◌, ◌||◌, not, nat_le, ◌==◌, List, ◌∷◌, ◌++◌, length, IsTrue}
use Rattle.std.specs.List.{list_all}
use Rattle.std.specs.Str.{is_utf8}
use Rattle.cb_varint.specs.Spelling.{Spells}
use Rattle.cb_varint.specs.Reading.{spelling}
use Rattle.cb_times.specs.declared.group.TheConstants.{MOST_MEMBERS}
use Rattle.cb_times.specs.declared.name.Name.{Name}
use Rattle.cb_rooms.specs.declared.line.TheConstants.{LONGEST_ROOM, LONGEST_PAYLOAD}
use Rattle.cb_rooms.specs.declared.line.Line.{Line}
use Rattle.cb_rooms.specs.declared.line.Line.TheVariants as lines

-- what a line says, without where it lies in memory
pub data LineFields : Type 0 where
  SayLine : List ℕ → List ℕ → LineFields
  AnswerLine : Name → List ℕ → LineFields

abbrev pub fields_of : Line → LineFields
fields_of (lines.Say room text) = SayLine room.now text.now
fields_of (lines.Answer question text) = AnswerLine question text.now

-- the first byte of what is said in a room, and of an answer
abbrev pub say_kind : ℕ
say_kind = 0x01

abbrev pub answer_kind : ℕ
answer_kind = 0x02

-- a to z, 0 to 9, and -
abbrev pub is_room_byte : ℕ → Bool
is_room_byte b = (nat_le 97 b && nat_le b 122) || (nat_le 48 b && nat_le b 57) || b == 45

-- the name of a room has 1 to 32 of these
unfoldable pub is_room : List ℕ → Bool
is_room name = nat_le 1 (length name) && nat_le (length name) LONGEST_ROOM && list_all is_room_byte name

-- no control character of ASCII
abbrev pub is_visible : ℕ → Bool
is_visible b = nat_le 32 b && not (b == 127)

-- a text is UTF-8 with no control character
unfoldable pub is_text : List ℕ → Bool
is_text text = is_utf8 text && list_all is_visible text

-- a message can have this name
pub record IsName (name : Name) : Type 0 where
  pub sender : name.sender < MOST_MEMBERS
  pub number : 1 ≤ name.number

-- the number of a question fits 32 bits
abbrev pub HasNumbers : LineFields → Type 0
HasNumbers (SayLine room text) = Unit {0}
HasNumbers (AnswerLine question text) = question.number < 2 ^ 32

-- what the line says can be said in a payload, but for its length
abbrev pub KeepsRules : LineFields → Type 0
KeepsRules (SayLine room text) = IsTrue (is_room room) × IsTrue (is_text text)
KeepsRules (AnswerLine question text) = IsName question × IsTrue (is_text text)

-- the bytes say what the line says: a room's name has its length in front, the name of a question is two numbers
abbrev pub Says : LineFields → List ℕ → Type 0
Says (SayLine room text) bytes =
    (size : List ℕ) × Spells size (length room) × (bytes ≡ say_kind ∷ size ++ room ++ text)
Says (AnswerLine question text) bytes = (sender number : List ℕ) × Spells sender question.sender
    × Spells number question.number × (bytes ≡ answer_kind ∷ sender ++ number ++ text)

-- the bytes are the line's payload
pub record IsPayload (line : LineFields) (bytes : List ℕ) : Type 0 where
  pub rules : KeepsRules line
  pub says : Says line bytes
  pub short : length bytes ≤ LONGEST_PAYLOAD

-- the same bytes as a function: a line that has a payload has this one
unfoldable pub payload_of : LineFields → List ℕ
payload_of (SayLine room text) = say_kind ∷ spelling (length room) ++ room ++ text
payload_of (AnswerLine question text) =
    answer_kind ∷ spelling question.sender ++ spelling question.number ++ text
