-- The laws of traces.
use Rattle.std.specs.Prelude.{◌≡◌, ℕ, List}
use Rattle.cb_trace.specs.Text.{HistoryFields}
use Rattle.cb_trace.specs.Bounds.{IsTrace, IsFirstBadLine}

-- a text is the trace of one list of histories
abbrev pub OneReading : Type 0
OneReading = (text : List ℕ) (a b : List HistoryFields) → IsTrace a text → IsTrace b text → a ≡ b

-- and has one first bad line
abbrev pub OneBadLine : Type 0
OneBadLine = (text : List ℕ) (m n : ℕ) → IsFirstBadLine text m → IsFirstBadLine text n → m ≡ n
