-- The lines of answers.
use Rattle.std.specs.Prelude.{ℕ, Bool, if◌then◌else◌, List, ◌++◌, codes}

-- a line of an answer: its words behind a space
unfoldable pub answer_line : List ℕ → List ℕ
answer_line words = codes " " ++ (words ++ codes "\n")

-- whether a call added an entry
abbrev pub changed_words : Bool → List ℕ
changed_words changed = if changed then codes "changed" else codes "unchanged"

abbrev pub is_words : Bool → List ℕ
is_words is = if is then codes "yes" else codes "no"
