-- A line that keeps the rules has a payload.
use Rattle.std.proofs.Common.{◌≡◌, true, length, refl, arith}
use Rattle.cb_varint.proofs.Spelled.{spelled}
use Rattle.cb_rooms.specs.Line.{LineFields, SayLine, AnswerLine, is_text, KeepsRules, HasNumbers, Says, payload_of}
use Rattle.cb_rooms.specs.Compose.{HasPlace, text_of}
use Rattle.cb_rooms.proofs.Names.{short_room}

pub keeps : (line : LineFields) → HasPlace line → is_text (text_of line) ≡ true → KeepsRules line
keeps (SayLine room text) placed visible = (placed, visible)
keeps (AnswerLine question text) placed visible = (placed, visible)

pub says : (line : LineFields) → KeepsRules line → HasNumbers line → Says line (payload_of line)
unfolding payload_of
says (SayLine room text) rules numbers = (_, spelled (length room) (omega (arith, short_room room rules.0)), refl)
says (AnswerLine question text) rules numbers =
    (_, _, spelled question.sender (omega (arith, rules.0.sender)), spelled question.number numbers, refl)
