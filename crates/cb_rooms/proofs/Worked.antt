-- The worked conference: a question, its answer, and what adds nothing.
use Rattle.std.specs.Prelude.{◌≡◌, ℕ, List, [], ◌∷◌, Some, None, codes, refl, true, false}
use Rattle.std.specs.Str.{is_utf8, chars}
use Rattle.std.specs.Fmt.{digits}
use lib.Utf8.{encode}
use Rattle.cb_varint.specs.Reading.{number_at, spelling}
use Rattle.cb_times.specs.declared.name.Name.{Name}
use Rattle.cb_rooms.specs.declared.shown.Showing.TheVariants as showings
use Rattle.cb_rooms.specs.Line.{LineFields, SayLine, AnswerLine, is_room, is_text, payload_of}
use Rattle.cb_rooms.specs.Reading.{say_at, answer_at, line_at}
use Rattle.cb_rooms.specs.View.{ViewLine, view_line, added, lines_after, conference_view, showing, rooms_of, lines_of_room, line_text, screen_text}

abbrev name : ℕ → ℕ → Name
name i s = record { sender = i; number = s }

-- member 0 says "when?" in the room plan, and member 1 answers
abbrev question : LineFields
question = SayLine (codes "plan") (codes "when?")

abbrev answer : LineFields
answer = AnswerLine (name 0 1) (codes "noon")

abbrev question_bytes : List ℕ
question_bytes = 0x01 ∷ 0x04 ∷ 0x70 ∷ 0x6c ∷ 0x61 ∷ 0x6e ∷ 0x77 ∷ 0x68 ∷ 0x65 ∷ 0x6e ∷ 0x3f ∷ []

abbrev answer_bytes : List ℕ
answer_bytes = 0x02 ∷ 0x00 ∷ 0x01 ∷ 0x6e ∷ 0x6f ∷ 0x6f ∷ 0x6e ∷ []

question_is : payload_of question ≡ question_bytes
unfolding payload_of spelling
question_is = refl

answer_is : payload_of answer ≡ answer_bytes
unfolding payload_of spelling
answer_is = refl

plan_is_a_room : is_room (codes "plan") ≡ true
unfolding is_room
plan_is_a_room = refl

capitals_are_not : is_room (codes "Plan") ≡ false
unfolding is_room
capitals_are_not = refl

question_is_read : line_at question_bytes ≡ Some question
unfolding line_at say_at number_at is_room is_text is_utf8 chars encode
question_is_read = refl

answer_is_read : line_at answer_bytes ≡ Some answer
unfolding line_at answer_at number_at is_text is_utf8 chars encode
answer_is_read = refl

no_line_is_read : line_at (0x03 ∷ []) ≡ None
unfolding line_at
no_line_is_read = refl

-- what stands on the screen that was shown both
abbrev lines : List ViewLine
lines = view_line (name 0 1) (codes "plan") None (codes "when?")
    ∷ view_line (name 1 1) (codes "plan") (Some (name 0 1)) (codes "noon") ∷ []

both_are_shown : conference_view ((name 0 1, question_bytes) ∷ (name 1 1, answer_bytes) ∷ []) ≡ lines
unfolding conference_view lines_after added line_at say_at answer_at number_at is_room is_text is_utf8 chars encode
both_are_shown = refl

-- again, no line, and an answer to a message without a line
three_add_nothing : conference_view ((name 0 1, question_bytes) ∷ (name 1 1, answer_bytes) ∷ (name 0 1, answer_bytes) ∷ (name 1 3, 0x03 ∷ []) ∷ (name 1 2, 0x02 ∷ 0x02 ∷ 0x01 ∷ []) ∷ []) ≡ lines
unfolding conference_view lines_after added line_at say_at answer_at number_at is_room is_text is_utf8 chars encode
three_add_nothing = refl

is_again : showing lines (name 0 1) answer_bytes ≡ showings.Again
unfolding showing
is_again = refl

is_an_orphan : showing lines (name 1 2) (0x02 ∷ 0x02 ∷ 0x01 ∷ []) ≡ showings.Orphan
unfolding showing line_at answer_at number_at is_text is_utf8 chars encode
is_an_orphan = refl

-- an answer that comes first is none of the view's lines, whatever comes later
an_answer_first : conference_view ((name 1 1, answer_bytes) ∷ (name 0 1, question_bytes) ∷ []) ≡ view_line (name 0 1) (codes "plan") None (codes "when?") ∷ []
unfolding conference_view lines_after added line_at say_at answer_at number_at is_room is_text is_utf8 chars encode
an_answer_first = refl

one_room : rooms_of lines ≡ codes "plan" ∷ []
one_room = refl

its_lines : lines_of_room lines (codes "plan") ≡ Some lines
unfolding lines_of_room
its_lines = refl

no_lines : lines_of_room lines (codes "main") ≡ None
unfolding lines_of_room
no_lines = refl

the_screen : screen_text 20 lines ≡ codes "[plan] 0.1 when?\n[plan] 1.1 re 0.1 noon\n"
unfolding screen_text line_text digits
the_screen = refl

a_screen_of_one : screen_text 1 lines ≡ codes "[plan] 1.1 re 0.1 noon\n"
unfolding screen_text line_text digits
a_screen_of_one = refl
