-- What is a trace.
use Rattle.std.specs.Prelude.{◌≡◌, ℕ, ◌+◌, ◌<◌, ◌≤◌, List, [], ◌∷◌, ◌++◌, length}
use Rattle.std.specs.List.{AllByRecursion}
use Rattle.cb_times.specs.declared.group.TheConstants.{MOST_MEMBERS}
use Rattle.cb_history.specs.declared.history.TheConstants.{LONGEST_HISTORY}
use Rattle.cb_history.specs.Group.{Parameters, AreParameters}
use Rattle.cb_trace.specs.Text.{HistoryFields, trace_lines}
use Rattle.cb_lines.specs.Text.{text_of_lines, line_feed}
use Rattle.cb_lines.specs.Bounds.{IsEntry}

-- a member's number and its count of entries
pub record IsMember (me count : ℕ) : Type 0 where
  pub member : me < MOST_MEMBERS
  pub entries : count ≤ LONGEST_HISTORY

-- a history of a member of this group
pub record IsHistory (group : Parameters) (h : HistoryFields) : Type 0 where
  pub group_is : h.group ≡ group
  pub member : IsMember h.me (length h.entries)
  pub each : AllByRecursion IsEntry h.entries

-- there are histories, and all are of this group
pub record ShareGroup (group : Parameters) (histories : List HistoryFields) : Type 0 where
  pub some : 1 ≤ length histories
  pub each : AllByRecursion (λ h. h.group ≡ group) histories

-- there is none, or two are of different groups
abbrev pub AreMixed : List HistoryFields → Type 0
AreMixed histories = (group : Parameters) → ¬ ShareGroup group histories

-- the text of histories of one group, within any bounds
abbrev pub IsTextOf : List HistoryFields → List ℕ → Type 0
IsTextOf histories text = (group : Parameters) × ShareGroup group histories
    × (text ≡ text_of_lines (trace_lines group histories))

-- 1 to 64 histories of one group, each within the bounds
pub record AreHistories (group : Parameters) (histories : List HistoryFields) : Type 0 where
  pub parameters : AreParameters group
  pub some : 1 ≤ length histories
  pub few : length histories ≤ MOST_MEMBERS
  pub each : AllByRecursion (IsHistory group) histories

-- the text is the trace of these histories
abbrev pub IsTrace : List HistoryFields → List ℕ → Type 0
IsTrace histories text = (group : Parameters) × AreHistories group histories
    × (text ≡ text_of_lines (trace_lines group histories))

-- ---- the first bad line

-- some trace begins with these lines
abbrev pub Begins : List (List ℕ) → Type 0
Begins lines = (group : Parameters) × (histories : List HistoryFields) × (more : List (List ℕ))
    × AreHistories group histories × (trace_lines group histories ≡ lines ++ more)

-- The line of this number is the first that is not what must stand there: a trace begins with the lines before it and goes on, but not
-- with the line that stands there, if any does.
pub record IsFirstBadLine (text : List ℕ) (number : ℕ) : Type 0 where
  pub good : List (List ℕ)
  pub rest : List ℕ
  pub parts : text ≡ text_of_lines good ++ rest
  pub place : number ≡ length good + 1
  pub begins : Begins good
  pub bad : (line after : List ℕ) → rest ≡ line ++ line_feed ∷ after → ¬ Begins (good ++ line ∷ [])
  pub no_trace : (histories : List HistoryFields) → ¬ IsTrace histories text
