-- What a participant was shown of its member's messages, and what it says next.
use Rattle.std.specs.Prelude.{◌≡◌, ◌⊎◌, ℕ, ◌+◌, ◌-◌, ◌*◌, ◌^◌, ◌<◌, ◌≤◌, Bool, ◌&&◌, nat_lt, ◌==◌, if◌then◌else◌, List, [], ◌∷◌, ◌++◌, codes, take, drop, map, filter, fold, min, Option, Some, option_map, slice_get}
use Rattle.std.specs.Fmt.{decimal}
use Rattle.cb_times.specs.declared.group.TheConstants.{MOST_MEMBERS}
use Rattle.cb_times.specs.declared.name.Name.{Name}
use Rattle.cb_delay.specs.declared.message.Message.{Message}
use Rattle.cb_delay.specs.declared.message.Event.{Event}
use Rattle.cb_delay.specs.Message.{message_of}
use Rattle.cb_rooms.specs.Conference.{held}
use Rattle.cb_rooms.specs.Line.{LineFields, SayLine, AnswerLine, IsPayload}
use Rattle.cb_rooms.specs.View.{ViewLine, lines_after, showing}
use Rattle.cb_rooms.specs.declared.shown.Showing.{Showing}
use Rattle.cb_rooms.specs.declared.shown.Showing.TheVariants as showings
use Rattle.cb_threads.specs.declared.talker.Talk.{Talk}
use Rattle.cb_threads.specs.declared.talker.Talk.TheVariants as talks
use Rattle.confer_run.specs.declared.participant.Participant.{Participant}
use Rattle.confer_text.specs.declared.conference.TheConstants.{SCREEN}
use Rattle.confer_run.specs.declared.setting.RunSetting.{RunSetting}

-- ---- before all turns

-- who talks for a member of a conference, and has said and seen nothing
pub record Begins (setting : RunSetting) (me : ℕ) (p : Participant) : Type 0 where
  pub member : p.me ≡ me
  pub questions_to_cast : p.to_cast ≡ setting.questions
  pub lines_of_all : p.to_show ≡ min (setting.questions * setting.size) (2 ^ 32 - 1)
  pub empty : p.conference ≡ held SCREEN []
  pub none_cast : p.cast ≡ 0
  pub none_shown : p.shown ≡ 0
  pub no_orphans : p.orphans ≡ 0
  pub no_questions : p.questions.items ≡ []
  pub not_ahead : p.ahead ≡ 0

-- ---- messages that are shown

abbrev pub Messages : Type 0
Messages = List (Name × List ℕ)

-- what a conference takes of a message
abbrev pub as_shown_to : Message → Name × List ℕ
as_shown_to m = (m.name, m.payload)

-- a message can have this name
abbrev pub is_name : Name → Bool
is_name name = nat_lt name.sender MOST_MEMBERS && nat_lt 0 name.number

-- the messages of events, in their order, as they are shown to a conference: each once
abbrev pub messages_of : List Event → Messages
messages_of events = filter (λ m. is_name m.0) (map (λ e. as_shown_to (message_of e)) events)

-- the lines of a conference that had these lines and was shown the messages
abbrev pub view_after : List ViewLine → Messages → List ViewLine
view_after lines messages = fold (λ held m. lines_after held m.0 m.1) lines messages

-- how many of the messages became this, each where the lines of those before it are held
abbrev pub count_of : (Showing → ℕ) → List ViewLine → Messages → ℕ
count_of worth lines [] = 0
count_of worth lines (m ∷ ms) = worth (showing lines m.0 m.1) + count_of worth (lines_after lines m.0 m.1) ms

abbrev pub as_shown : Showing → ℕ
as_shown showings.Shown = 1
as_shown other = 0

abbrev pub as_orphan : Showing → ℕ
as_orphan showings.Orphan = 1
as_orphan other = 0

-- the message of member 0 that became a line is a question
abbrev pub question_of : Name → Showing → List Name
question_of name showings.Shown = if name.sender == 0 then name ∷ [] else []
question_of name other = []

-- those among the messages
abbrev pub questions_of : List ViewLine → Messages → List Name
questions_of lines [] = []
questions_of lines (m ∷ ms) = question_of m.0 (showing lines m.0 m.1) ++ questions_of (lines_after lines m.0 m.1) ms

-- A count of 32 bits rose by so many, or stands at its greatest value, since it was to rise past it.
abbrev pub RoseBy : ℕ → ℕ → ℕ → Type 0
RoseBy old n new = (new ≡ old + n) ⊎ ((4294967295 ≤ old + n) × (4294967295 ≤ new))

-- the messages were shown to the participant, in their order and each once
pub record SawAll (before after : Participant) (messages : Messages) : Type 0 where
  pub lines : after.conference ≡ held before.conference.screen (view_after before.conference.lines messages)
  pub shown : RoseBy before.shown (count_of as_shown before.conference.lines messages) after.shown
  pub orphans : RoseBy before.orphans (count_of as_orphan before.conference.lines messages) after.orphans
  pub questions : after.questions.items ≡ before.questions.items ++ questions_of before.conference.lines messages

-- so of the events that come behind those it had seen before, up to those that it has seen now
pub record SawFirst (before after : Participant) (events : List Event) : Type 0 where
  pub saw : SawAll before after (messages_of (drop before.ahead (take after.ahead events)))

-- ---- what is said

-- member 0 asks its next question; every other member answers the next question that it was shown
abbrev pub next_said : Participant → Option LineFields
next_said p =
    if p.me == 0 then Some (SayLine (codes "main") (codes "question " ++ decimal (p.cast + 1)))
    else option_map (λ question. AnswerLine question (codes "yes")) (slice_get p.questions.items p.cast)

-- the payload is that of the line which it says next
pub record SaysNext (p : Participant) (payload : List ℕ) : Type 0 where
  pub left : p.cast < p.to_cast
  pub line : LineFields
  pub next : next_said p ≡ Some line
  pub is_payload : IsPayload line payload

-- ---- a turn

-- what it says of itself, and counts; it casts no bursts
abbrev pub Says : Participant → Participant → Talk → Type 0
Says before after (talks.Cast payload) = SaysNext (record after { cast = before.cast }) payload.items × (after.cast ≡ min (before.cast + 1) 4294967295)
Says before after (talks.Burst payloads) = ⊥
Says before after talks.Idle = after.cast ≡ before.cast
Says before after talks.Finished = (after.cast ≡ before.cast) × (after.to_cast ≤ after.cast) × (after.to_show ≤ after.shown)

-- It was shown each of the events once. What it casts is the line that it says next; without one it has finished, or waits.
pub record TalksAbout (before after : Participant) (events : List Event) (talk : Talk) : Type 0 where
  pub saw : SawAll before after (messages_of (drop before.ahead events))
  pub caught_up : after.ahead ≡ 0
  pub says : Says before after talk
