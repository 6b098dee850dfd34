-- Which script some bytes are: a line for the group, and behind it a line for each order.
use Rattle.std.specs.Prelude.{◌≡◌, ◌≢◌, ◌==◌, ◌⊎◌, ℕ, List, [], ◌∷◌, ◌++◌, Option, IfSome, codes, decimal}
use Rattle.std.specs.Io.KnownBytes.{Appends}
use Rattle.std.specs.List.{slice_split}
use Rattle.cb_frames.specs.Fields.{One, Many}
use Rattle.cb_rooms.specs.Line.{SayLine, AnswerLine}
use Rattle.cb_schedules.specs.Schedule.{Setting, CastStep, ArriveStep, TickStep, HelpStep}
use Rattle.confer_play.specs.Play.{IsPayloadWord}
use Rattle.confer_play.specs.Playing.{ScriptOrder, Takes, Composes, Shows, IsRunText}

-- a word, a space, and what stands behind it
abbrev pub spaced : List ℕ → List ℕ → List ℕ
spaced word rest = word ++ (codes " " ++ rest)

-- a number behind its label, and what stands behind both
abbrev pub labelled : List ℕ → ℕ → List ℕ → List ℕ
labelled label number rest = spaced label (spaced (decimal number) rest)

-- the first line says this setting
abbrev pub IsFirstLine : List ℕ → Setting → Type 0
IsFirstLine line setting =
    line ≡ labelled (codes "group") setting.group.number (labelled (codes "size") setting.group.size (labelled (codes "window") setting.group.window (spaced (codes "history") (decimal setting.limit))))

-- each word is that of its payload
abbrev pub ArePayloadWords : List (List ℕ) → List (List ℕ) → Type 0
ArePayloadWords [] [] = Unit {0}
ArePayloadWords [] (payload ∷ payloads) = ⊥
ArePayloadWords (word ∷ words) [] = ⊥
ArePayloadWords (word ∷ words) (payload ∷ payloads) = IsPayloadWord word payload × ArePayloadWords words payloads

-- A further line says this order. Of a burst it has a word for each payload, with one space between each two; so there is at least one.
abbrev pub Orders : List ℕ → ScriptOrder → Type 0
Orders line (Takes (CastStep i (One payload))) = (word : List ℕ) × (line ≡ labelled (codes "cast") i word) × IsPayloadWord word payload
Orders line (Takes (CastStep i (Many payloads))) =
    (words : List ℕ) × (line ≡ labelled (codes "burst") i words) × ArePayloadWords (slice_split (λ b. b == 32) words) payloads
Orders line (Takes (ArriveStep j number)) = line ≡ labelled (codes "arrive") j (decimal number)
Orders line (Takes (TickStep i)) = line ≡ spaced (codes "tick") (decimal i)
Orders line (Takes (HelpStep j i)) = line ≡ labelled (codes "help") j (decimal i)
Orders line (Composes i (SayLine room text)) = (line ≡ labelled (codes "say") i (spaced room text)) × (room ≢ [])
Orders line (Composes i (AnswerLine question text)) =
    line ≡ labelled (codes "answer") i (spaced (decimal question.sender ++ (codes "." ++ decimal question.number)) text)
Orders line (Shows i) = line ≡ spaced (codes "screen") (decimal i)

-- each of the lines says its order
abbrev pub EachOrders : List (List ℕ) → List ScriptOrder → Type 0
EachOrders [] [] = Unit {0}
EachOrders [] (order ∷ orders) = ⊥
EachOrders (line ∷ lines) [] = ⊥
EachOrders (line ∷ lines) (order ∷ orders) = Orders line order × EachOrders lines orders

-- the lines are those of a script of these orders, for a group of this setting
abbrev pub AreScript : List (List ℕ) → Setting → List ScriptOrder → Type 0
AreScript [] setting orders = ⊥
AreScript (first ∷ lines) setting orders = IsFirstLine first setting × EachOrders lines orders

-- the bytes are those of such a script, whose last line may end with a line feed or not
pub record IsScript (bytes : List ℕ) (setting : Setting) (orders : List ScriptOrder) : Type 0 where
  pub text : List ℕ
  pub ended : (bytes ≡ text) ⊎ (bytes ≡ text ++ codes "\n")
  pub lines : AreScript (slice_split (λ b. b == 10) text) setting orders

-- the bytes are those of a script, and the text is that of its run
pub record RunsScript (bytes text : List ℕ) : Type 0 where
  pub setting : Setting
  pub orders : List ScriptOrder
  pub script : IsScript bytes setting orders
  pub run : IsRunText setting orders text

-- the text of a run of the script that the input is was written
pub record WritesRun (input before now : Option (List ℕ)) : Type 0 where
  pub text : List ℕ
  pub runs : IfSome input (λ bytes. RunsScript bytes text)
  pub written : Appends before now text
