-- The lines of groups and of entries, and the text that lines make.
use Rattle.std.specs.Prelude.{◌≡◌, ℕ, List, [], ◌∷◌, ◌++◌, codes, map}
use Rattle.std.specs.List.{flat_map, join_with_byte, Contains}
use Rattle.std.specs.Fmt.{decimal}
use Rattle.hex.specs.Hex.{encode_lower}
use Rattle.cb_times.specs.declared.name.Name.{Name}
use Rattle.cb_times.specs.Name.{name_text}
use Rattle.cb_history.specs.Group.{Parameters}
use Rattle.cb_history.specs.Facts.{EntryFields, CastEntry, ArriveEntry, TickEntry}

-- ---- the words of each line

abbrev pub group_words : Parameters → List (List ℕ)
group_words g =
    codes "cbcast" ∷ codes "1" ∷ codes "group" ∷ decimal g.number ∷ codes "size" ∷ decimal g.size
    ∷ codes "window" ∷ decimal g.window ∷ []

-- the names in the order delivered, or a dash for none
abbrev pub delivered_words : List Name → List (List ℕ)
delivered_words [] = codes "-" ∷ []
delivered_words (name ∷ names) = map name_text (name ∷ names)

abbrev pub entry_words : EntryFields → List (List ℕ)
entry_words (CastEntry frame) = codes "cast" ∷ encode_lower frame ∷ []
entry_words (ArriveEntry frame delivered) = codes "arrive" ∷ encode_lower frame ∷ delivered_words delivered
entry_words (TickEntry status) = codes "tick" ∷ encode_lower status ∷ []

-- ---- the lines

abbrev pub space : ℕ
space = 32

abbrev pub line_feed : ℕ
line_feed = 10

-- a line is its words with one space between each two
unfoldable pub line_of : List (List ℕ) → List ℕ
line_of words = join_with_byte space words

unfoldable pub entry_line : EntryFields → List ℕ
entry_line entry = line_of (entry_words entry)

unfoldable pub group_line : Parameters → List ℕ
group_line group = line_of (group_words group)

-- ---- the text

-- each line ends with a line feed
abbrev pub with_line_feed : List ℕ → List ℕ
with_line_feed line = line ++ line_feed ∷ []

unfoldable pub text_of_lines : List (List ℕ) → List ℕ
text_of_lines lines = flat_map with_line_feed lines

-- the first line, and the bytes behind its line feed
pub record IsCut (text line after : List ℕ) : Type 0 where
  pub parts : text ≡ line ++ line_feed ∷ after
  pub whole : ¬ Contains line line_feed
