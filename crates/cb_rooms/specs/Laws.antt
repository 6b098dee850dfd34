-- The laws of payloads, and of the view.
use Rattle.std.specs.Prelude.{◌≡◌, ℕ, ◌<◌, List, [], ◌∷◌, ◌++◌, ◌↔◌, Some, slice_get, slice_index, IsSome}
use Rattle.std.specs.List.{AllByRecursion}
use Rattle.cb_times.specs.declared.name.Name.{Name}
use Rattle.cb_rooms.specs.declared.shown.Showing.TheVariants as showings
use Rattle.cb_rooms.specs.Line.{LineFields, IsPayload, payload_of}
use Rattle.cb_rooms.specs.Reading.{line_at}
use Rattle.cb_rooms.specs.View.{ViewLine, line_named, conference_view, added, lines_after, showing}

-- a line has one payload at most, which `payload_of` names
abbrev pub OnePayload : Type 0
OnePayload = (line : LineFields) (bytes : List ℕ) → IsPayload line bytes → bytes ≡ payload_of line

-- a payload is that of one line
abbrev pub OneLine : Type 0
OneLine = (a b : LineFields) (bytes : List ℕ) → IsPayload a bytes → IsPayload b bytes → a ≡ b

abbrev pub IsBytes : List ℕ → Type 0
IsBytes bytes = (i : ℕ) → slice_index bytes i < 256

-- `line_at` finds a line exactly where there is one
abbrev pub ReadingIsExact : Type 0
ReadingIsExact = (bytes : List ℕ) (line : LineFields) → IsBytes bytes → (line_at bytes ≡ Some line) ↔ IsPayload line bytes

-- the view of one more message is what the view adds to it
abbrev pub ViewGoesOn : Type 0
ViewGoesOn = (messages : List (Name × List ℕ)) (message : Name × List ℕ)
    → conference_view (messages ++ message ∷ []) ≡ lines_after (conference_view messages) message.0 message.1

-- a line is added exactly where a message is answered Shown
abbrev pub OnlyShownAdds : Type 0
OnlyShownAdds = (lines : List ViewLine) (name : Name) (payload : List ℕ)
    → (showing lines name payload ≡ showings.Shown) ↔ IsSome (added lines name payload)

-- each line of a view is the one of its name
abbrev pub OneLineForEachName : Type 0
OneLineForEachName = (messages : List (Name × List ℕ))
    → AllByRecursion (λ l. line_named (conference_view messages) l.name ≡ Some l) (conference_view messages)

-- a line before place k, of this message and in this room
abbrev pub StandsBefore : List ViewLine → ℕ → Name → List ℕ → Type 0
StandsBefore lines k name room =
    (j : ℕ) × (m : ViewLine) × (j < k) × (slice_get lines j ≡ Some m) × (m.name ≡ name) × (m.room ≡ room)

-- no answer before its question: the line that an answer answers stands before it, in the same room
abbrev pub AnswersStandBehindQuestions : Type 0
AnswersStandBehindQuestions = (messages : List (Name × List ℕ)) (k : ℕ) (l : ViewLine) (question : Name)
    → slice_get (conference_view messages) k ≡ Some l → l.question ≡ Some question → StandsBefore (conference_view messages) k question l.room
