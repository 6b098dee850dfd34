-- How a line is printed.
use Rattle.std.specs.Prelude.{ℕ, List}
use Rattle.cb_rooms.specs.declared.shown.Printed.{Printed}
use Rattle.cb_rooms.specs.View.{ViewLine, line_text}

abbrev pub printed_line : Printed → ViewLine
printed_line p = record { name = p.name; room = p.room.now; question = p.question; text = p.text.now }

abbrev pub printed_text : Printed → List ℕ
printed_text p = line_text (printed_line p)
