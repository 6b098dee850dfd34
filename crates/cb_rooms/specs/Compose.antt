-- Why a line has no payload in a conference that holds these lines: the first of the faults, or none.
use Rattle.std.specs.Prelude.{◌≡◌, ◌⊎◌, ℕ, nat_lt, if◌then◌else◌, List, length, Option, Some, None, IsTrue}
use Rattle.cb_rooms.specs.declared.line.TheConstants.{LONGEST_PAYLOAD}
use Rattle.cb_rooms.specs.declared.fault.ComposeFault.{ComposeFault}
use Rattle.cb_rooms.specs.declared.fault.ComposeFault.TheVariants.{BadRoom, UnknownQuestion, BadText, TooLong, NoMemory}
use Rattle.cb_rooms.specs.Line.{LineFields, SayLine, AnswerLine, IsName, is_room, is_text, payload_of}
use Rattle.cb_rooms.specs.View.{ViewLine, has_line}

-- something is said in a room that can't be, or a question has no line
abbrev pub place_fault : List ViewLine → LineFields → Option ComposeFault
place_fault lines (SayLine room text) = if is_room room then None else Some BadRoom
place_fault lines (AnswerLine question text) = if has_line lines question then None else Some UnknownQuestion

-- a room that can be, or the name of a message that can be
abbrev pub HasPlace : LineFields → Type 0
HasPlace (SayLine room text) = IsTrue (is_room room)
HasPlace (AnswerLine question text) = IsName question

abbrev pub text_of : LineFields → List ℕ
text_of (SayLine room text) = text
text_of (AnswerLine question text) = text

abbrev pub or_else : Option ComposeFault → Option ComposeFault → Option ComposeFault
or_else (Some fault) other = Some fault
or_else None other = other

abbrev pub text_fault : LineFields → Option ComposeFault
text_fault line = if is_text (text_of line) then None else Some BadText

abbrev pub length_fault : LineFields → Option ComposeFault
length_fault line = if nat_lt LONGEST_PAYLOAD (length (payload_of line)) then Some TooLong else None

unfoldable pub compose_fault : List ViewLine → LineFields → Option ComposeFault
compose_fault lines line = or_else (place_fault lines line) (or_else (text_fault line) (length_fault line))

-- why `compose` may answer no payload: the first fault, or where there is none that memory is out
abbrev pub MayFail : Option ComposeFault → ComposeFault → Type 0
MayFail first fault = (first ≡ Some fault) ⊎ ((first ≡ None) × (fault ≡ NoMemory))
