-- A worked journal, by the definitions.
use Rattle.std.proofs.Common.{◌≡◌, ℕ, List, [], ◌∷◌, refl}
use Rattle.std.specs.Prelude.{codes}
use Rattle.std.specs.Fmt.{digits}
use Rattle.hex.proofs.OnLiterals.{hex_on_literals}
use Rattle.cb_history.specs.Group.{Identity}
use Rattle.cb_history.specs.Facts.{EntryFields, CastEntry, ArriveEntry}
use Rattle.cb_lines.specs.Text.{line_of, entry_line, text_of_lines}
use Rattle.cb_journal.specs.Journal.{head_line, journal_text}

-- member 1 of group 7, which takes "hi" and casts "yo"
abbrev seat : Identity
seat = record { group = record { number = 7; size = 3; window = 4 }; me = 1 }

abbrev hi : List ℕ
hi = 0x11 ∷ 0x07 ∷ 0x00 ∷ 0x01 ∷ 0x00 ∷ 0x02 ∷ 0x68 ∷ 0x69 ∷ []

abbrev yo : List ℕ
yo = 0x11 ∷ 0x07 ∷ 0x01 ∷ 0x01 ∷ 0x01 ∷ 0x00 ∷ 0x01 ∷ 0x02 ∷ 0x79 ∷ 0x6f ∷ []

abbrev entries : List EntryFields
entries = ArriveEntry hi (record { sender = 0; number = 1 } ∷ []) ∷ CastEntry yo ∷ []

the_text : journal_text seat entries ≡ codes "cbcast 1 group 7 size 3 window 4 member 1\narrive 1107000100026869 0.1\ncast 1107010101000102796f\n"
unfolding digits hex_on_literals line_of head_line entry_line text_of_lines journal_text
the_text = refl

-- before the first entry there is the head alone
the_head : journal_text seat [] ≡ codes "cbcast 1 group 7 size 3 window 4 member 1\n"
unfolding digits line_of head_line text_of_lines journal_text
the_head = refl
