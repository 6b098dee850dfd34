-- What `confer expand` writes for the whole of an input.
use Rattle.std.specs.Prelude.{ℕ, Bool, false, ◌||◌, List, [], ◌∷◌, ◌++◌, ◌==◌, if◌then◌else◌, is_err}
use Rattle.std.specs.List.{flat_map}
use Rattle.cb_frames.specs.Fields.{CastFields}
use Rattle.confer_expand.specs.Answers.{outcome, answer_texts, accepted_after}

abbrev pub line_feed : ℕ
line_feed = 10

-- ---- the lines of a text

-- the lines that end in these bytes, where `begun` has come before them of the first
unfoldable pub ended : List ℕ → List ℕ → List (List ℕ)
ended begun [] = []
ended begun (b ∷ bytes) = if b == line_feed then begun ∷ ended [] bytes else ended (begun ++ b ∷ []) bytes

-- and what has come of the line that does not end in them
unfoldable pub unended : List ℕ → List ℕ → List ℕ
unended begun [] = begun
unended begun (b ∷ bytes) = if b == line_feed then unended [] bytes else unended (begun ++ b ∷ []) bytes

-- a last line without a line feed counts, if it has a byte
abbrev pub last_line : List ℕ → List (List ℕ)
last_line [] = []
last_line (b ∷ bytes) = (b ∷ bytes) ∷ []

abbrev pub lines_of : List ℕ → List (List ℕ)
lines_of bytes = ended [] bytes ++ last_line (unended [] bytes)

-- ---- their answers, where these casts were accepted before

-- these texts, each with a line feed
abbrev pub as_lines : List (List ℕ) → List ℕ
as_lines texts = flat_map (λ text. text ++ line_feed ∷ []) texts

-- an answer for each line
abbrev pub answers : ℕ → ℕ → List CastFields → List (List ℕ) → List ℕ
answers group size accepted [] = []
answers group size accepted (line ∷ lines) =
    as_lines (answer_texts size accepted (outcome group size accepted line))
    ++ answers group size (accepted_after accepted (outcome group size accepted line)) lines

-- whether a line is refused
abbrev pub any_refused : ℕ → ℕ → List CastFields → List (List ℕ) → Bool
any_refused group size accepted [] = false
any_refused group size accepted (line ∷ lines) =
    is_err (outcome group size accepted line)
    || any_refused group size (accepted_after accepted (outcome group size accepted line)) lines

-- the casts that are accepted after the lines
abbrev pub accepted_through : ℕ → ℕ → List CastFields → List (List ℕ) → List CastFields
accepted_through group size accepted [] = accepted
accepted_through group size accepted (line ∷ lines) =
    accepted_through group size (accepted_after accepted (outcome group size accepted line)) lines

-- ---- the whole input

unfoldable pub output_of : ℕ → ℕ → List ℕ → List ℕ
output_of group size input = answers group size [] (lines_of input)

unfoldable pub is_refused : ℕ → ℕ → List ℕ → Bool
is_refused group size input = any_refused group size [] (lines_of input)
