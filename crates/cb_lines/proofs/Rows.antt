-- Worked lines, by the definitions.
use Rattle.std.proofs.Common.{◌≡◌, ℕ, List, [], ◌∷◌, refl}
use Rattle.std.specs.Prelude.{codes}
use Rattle.std.specs.Fmt.{digits}
use Rattle.hex.proofs.OnLiterals.{hex_on_literals}
use Rattle.cb_times.specs.declared.name.Name.{Name}
use Rattle.cb_history.specs.Facts.{CastEntry, ArriveEntry, TickEntry}
use Rattle.cb_lines.specs.Text.{line_of, group_line, entry_line, text_of_lines}

-- member 0's first cast, "hi"
abbrev hi : List ℕ
hi = 0x11 ∷ 0x07 ∷ 0x00 ∷ 0x01 ∷ 0x00 ∷ 0x02 ∷ 0x68 ∷ 0x69 ∷ []

abbrev name : ℕ → ℕ → Name
name i s = record { sender = i; number = s }

-- a group, a cast, an arrival that delivers two messages and one that delivers none
a_group : group_line (record { number = 7; size = 3; window = 4 }) ≡ codes "cbcast 1 group 7 size 3 window 4"
unfolding digits line_of group_line
a_group = refl

a_cast : entry_line (CastEntry hi) ≡ codes "cast 1107000100026869"
unfolding hex_on_literals line_of entry_line
a_cast = refl

an_arrival : entry_line (ArriveEntry hi (name 0 1 ∷ name 1 1 ∷ [])) ≡ codes "arrive 1107000100026869 0.1 1.1"
unfolding digits hex_on_literals line_of entry_line
an_arrival = refl

no_delivery : entry_line (ArriveEntry hi []) ≡ codes "arrive 1107000100026869 -"
unfolding hex_on_literals line_of entry_line
no_delivery = refl

a_tick : entry_line (TickEntry (0x12 ∷ 0x07 ∷ 0x02 ∷ 0x00 ∷ [])) ≡ codes "tick 12070200"
unfolding hex_on_literals line_of entry_line
a_tick = refl

-- each line ends with a line feed
each_has_a_line_feed : text_of_lines (codes "cast 00" ∷ codes "tick 00" ∷ []) ≡ codes "cast 00\ntick 00\n"
unfolding text_of_lines
each_has_a_line_feed = refl
