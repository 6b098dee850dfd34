-- The worked trace, by the definitions.
use Rattle.std.proofs.Common.{◌≡◌, ℕ, List, [], ◌∷◌, refl}
use Rattle.std.specs.Prelude.{codes}
use Rattle.std.specs.Fmt.{digits}
use Rattle.hex.proofs.OnLiterals.{hex_on_literals}
use Rattle.cb_times.specs.declared.name.Name.{Name}
use Rattle.cb_history.specs.Group.{Parameters}
use Rattle.cb_history.specs.Facts.{CastEntry, ArriveEntry, TickEntry}
use Rattle.cb_trace.specs.Text.{HistoryFields, member_line, trace_lines}
use Rattle.cb_lines.specs.Text.{line_of, group_line, entry_line, text_of_lines}

abbrev group : Parameters
group = record { number = 7; size = 3; window = 4 }

-- member 0's first cast, "hi", and member 1's, "yo", once it has delivered the former
abbrev hi : List ℕ
hi = 0x11 ∷ 0x07 ∷ 0x00 ∷ 0x01 ∷ 0x00 ∷ 0x02 ∷ 0x68 ∷ 0x69 ∷ []

abbrev yo : List ℕ
yo = 0x11 ∷ 0x07 ∷ 0x01 ∷ 0x01 ∷ 0x01 ∷ 0x00 ∷ 0x01 ∷ 0x02 ∷ 0x79 ∷ 0x6f ∷ []

abbrev of_hi : Name
of_hi = record { sender = 0; number = 1 }

abbrev of_yo : Name
of_yo = record { sender = 1; number = 1 }

abbrev histories : List HistoryFields
histories =
    record { group = group; me = 0; entries = CastEntry hi ∷ [] }
    ∷ record { group = group; me = 1; entries = ArriveEntry hi (of_hi ∷ []) ∷ CastEntry yo ∷ [] }
    ∷ record { group = group; me = 2; entries = ArriveEntry yo [] ∷ ArriveEntry hi (of_hi ∷ of_yo ∷ []) ∷ [] }
    ∷ []

-- the lines of the worked trace, as they are written
the_lines : trace_lines group histories
    ≡ codes "cbcast 1 group 7 size 3 window 4"
    ∷ codes "member 0 entries 1"
    ∷ codes "cast 1107000100026869"
    ∷ codes "member 1 entries 2"
    ∷ codes "arrive 1107000100026869 0.1"
    ∷ codes "cast 1107010101000102796f"
    ∷ codes "member 2 entries 2"
    ∷ codes "arrive 1107010101000102796f -"
    ∷ codes "arrive 1107000100026869 0.1 1.1"
    ∷ codes "end"
    ∷ []
unfolding digits hex_on_literals line_of group_line member_line entry_line
the_lines = refl

-- each line ends with a line feed
each_has_a_line_feed : text_of_lines (codes "member 0 entries 1" ∷ codes "end" ∷ []) ≡ codes "member 0 entries 1\nend\n"
unfolding text_of_lines
each_has_a_line_feed = refl

-- a tick
a_tick : entry_line (TickEntry (0x12 ∷ 0x07 ∷ 0x02 ∷ 0x00 ∷ [])) ≡ codes "tick 12070200"
unfolding hex_on_literals line_of entry_line
a_tick = refl
