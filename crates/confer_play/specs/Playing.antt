-- What a script makes of a group whose members hold a conference, and what their conferences were shown.
use Rattle.std.specs.Prelude.{◌≡◌, ◌≢◌, ◌⊎◌, ℕ, suc, ◌<◌, ◌≤◌, List, [], ◌∷◌, ◌++◌, None, codes, decimal, flat_map, length, drop, fold, slice_get, Some}
use Rattle.std.specs.List.{AllByRecursion}
use Rattle.std.specs.Str.Lines.{lines}
use Rattle.cb_delay.specs.declared.message.Event.{Event}
use Rattle.cb_causality.specs.declared.event.CausalEvent.{CausalEvent}
use Rattle.cb_delay.specs.Message.{message_of}
use Rattle.cb_frames.specs.Fields.{One, payloads_of}
use Rattle.cb_rooms.specs.Line.{LineFields, fields_of, IsPayload}
use Rattle.cb_rooms.specs.Compose.{compose_fault}
use Rattle.cb_rooms.specs.Conference.{held}
use Rattle.cb_rooms.specs.View.{ViewLine, lines_after, screen_text}
use Rattle.cb_schedules.specs.Schedule.{Setting, IsSetting, Step, CastStep, ArriveStep, TickStep, HelpStep}
use Rattle.cb_schedules.specs.Messages.{causal_lists}
use Rattle.cb_world.specs.Steps.{step_fields}
use Rattle.cb_world.specs.World.{WorldState, run_in, and_step}
use Rattle.confer_play.specs.declared.rooms.Attendance.{Attendance}
use Rattle.confer_text.specs.declared.conference.TheConstants.{SCREEN}
use Rattle.confer_play.specs.declared.script.Setting.{Setting as ScriptSetting}
use Rattle.confer_play.specs.declared.script.ScriptStep.{ScriptStep}
use Rattle.confer_play.specs.declared.script.ScriptStep.TheVariants as script
use Rattle.confer_play.specs.Rooms.{view_of, IsAnswer, QuestionsComeFirst}

-- ---- scripts

-- What a line of a script orders: a step of the group; a line, to be composed in a member's conference and cast; the screen of a member.
pub data ScriptOrder : Type 0 where
  Takes : Step → ScriptOrder
  Composes : ℕ → LineFields → ScriptOrder
  Shows : ℕ → ScriptOrder

abbrev pub order_of : ScriptStep → ScriptOrder
order_of (script.Take step) = Takes (step_fields step)
order_of (script.Compose member line) = Composes member (fields_of line)
order_of (script.Screen member) = Shows member

-- the casts and deliveries of a member so far
abbrev pub events_in : WorldState → ℕ → List CausalEvent
events_in w i = causal_lists w.setting (run_in w) i

-- the view of a conference that was shown these, each once and in their order, and nothing else
abbrev pub view_in : WorldState → ℕ → List ViewLine
view_in w i = view_of (events_in w i)

-- the member has composed the line over its view, and cast its payload
pub record ComposesAndCasts (w : WorldState) (i : ℕ) (line : LineFields) (after : WorldState) : Type 0 where
  pub member : i < w.setting.group.size
  pub placed : compose_fault (view_in w i) line ≡ None
  pub payload : List ℕ
  pub made : IsPayload line payload
  pub cast : after ≡ and_step w (CastStep i (One payload))

-- There is no such member, or its conference has a fault to find with the line. Nothing happens.
pub record ComposesNothing (w : WorldState) (i : ℕ) (line : LineFields) (after : WorldState) : Type 0 where
  pub none : (w.setting.group.size ≤ i) ⊎ (compose_fault (view_in w i) line ≢ None)
  pub same : after ≡ w

-- the outcome of an order in a group
abbrev pub ComesOf : ScriptOrder → WorldState → WorldState → Type 0
ComesOf (Takes step) w after = after ≡ and_step w step
ComesOf (Composes i line) w after = ComposesAndCasts w i line after ⊎ ComposesNothing w i line after
ComesOf (Shows i) w after = after ≡ w

-- the outcome of some orders, one after the other
pub data Plays : WorldState → List ScriptOrder → WorldState → Type 0 where
  NoOrders : (w : WorldState) → Plays w [] w
  OneAndThen : (w next after : WorldState) (order : ScriptOrder) (orders : List ScriptOrder) → ComesOf order w next → Plays next orders after
      → Plays w (order ∷ orders) after

-- the setting that the first line of a script says
abbrev pub setting_in : ScriptSetting → Setting
setting_in setting = record { group = setting.group; limit = setting.history_max }

-- a group in which nothing has happened
abbrev pub new_group : Setting → WorldState
new_group setting = record { setting = setting; steps = [] }

-- no plain cast of the script carries an answer
abbrev pub CastsNoAnswer : ScriptOrder → Type 0
CastsNoAnswer (Takes (CastStep i load)) = AllByRecursion (λ payload. ¬ IsAnswer payload) (payloads_of load)
CastsNoAnswer (Takes (ArriveStep j number)) = Unit {0}
CastsNoAnswer (Takes (TickStep i)) = Unit {0}
CastsNoAnswer (Takes (HelpStep j i)) = Unit {0}
CastsNoAnswer (Composes i line) = Unit {0}
CastsNoAnswer (Shows i) = Unit {0}

abbrev pub CastNoAnswers : List ScriptOrder → Type 0
CastNoAnswers orders = AllByRecursion CastsNoAnswer orders

-- it holds after each script whose plain casts carry no answer
abbrev pub EachScript : (WorldState → Type 0) → Type 0
EachScript P =
    (setting : Setting) (orders : List ScriptOrder) (w : WorldState) → IsSetting setting → CastNoAnswers orders
    → Plays (new_group setting) orders w → P w

-- ---- what conferences were shown

-- the conference was shown these events, each once and in their order, and nothing else
pub record IsShown (events : List CausalEvent) (a : Attendance) : Type 0 where
  pub lines : a.conference ≡ held SCREEN (view_of events)
  pub many : a.shown ≡ length events

-- nothing was shown to it
pub record IsNew (a : Attendance) : Type 0 where
  pub lines : a.conference ≡ held SCREEN []
  pub many : a.shown ≡ 0

-- the lines after these events too
abbrev pub lines_with : List ViewLine → List Event → List ViewLine
lines_with lines events = fold (λ so_far e. lines_after so_far (message_of e).name (message_of e).payload) lines events

-- it was shown those of these events that it had not been shown
pub record CatchesUp (events : List Event) (before after : Attendance) : Type 0 where
  pub lines : after.conference ≡ held before.conference.screen (lines_with before.conference.lines (drop before.shown events))
  pub many : after.shown ≡ length events

-- this is so of member j's conference, where there is one, and no other was shown anything
pub record CatchUp (before : List Attendance) (j : ℕ) (events : List Event) (after : List Attendance) : Type 0 where
  pub many : length after ≡ length before
  pub others : (i : ℕ) → i ≢ j → slice_get after i ≡ slice_get before i
  pub own : (a : Attendance) → slice_get after j ≡ Some a → (b : Attendance) × (slice_get before j ≡ Some b) × CatchesUp events b a

-- each member of the group has a conference that was shown its events
pub record AreShown (w : WorldState) (attendances : List Attendance) : Type 0 where
  pub many : length attendances ≡ w.setting.group.size
  pub each : (i : ℕ) (a : Attendance) → slice_get attendances i ≡ Some a → IsShown (events_in w i) a

-- ---- what is printed of a screen

-- a line of a screen behind a bar
abbrev pub behind_bar : List ℕ → List ℕ
behind_bar line = codes " | " ++ (line ++ codes "\n")

-- the lines of member i's screen, under the number of the step that asked for it
unfoldable pub screen_lines : ℕ → ℕ → List (List ℕ) → List ℕ
screen_lines number i shown = (decimal number ++ (codes " screen " ++ (decimal i ++ codes "\n"))) ++ flat_map behind_bar shown

-- the same of the text of a screen
abbrev pub screen_part : ℕ → ℕ → List ℕ → List ℕ
screen_part number i screen = screen_lines number i (lines screen)

-- what is printed of an order under its number: of a screen that there is, just its lines
abbrev pub Says : ℕ → ScriptOrder → WorldState → List ℕ → Type 0
Says number (Takes step) w part = Unit {0}
Says number (Composes i line) w part = Unit {0}
Says number (Shows i) w part = i < w.setting.group.size → part ≡ screen_part number i (screen_text SCREEN (view_in w i))

-- ---- what is printed of a script

-- the outcome of some orders, one after the other, and what is printed of them
pub data Prints : WorldState → ℕ → List ScriptOrder → List ℕ → WorldState → Type 0 where
  NothingMore : (w : WorldState) (number : ℕ) → Prints w number [] [] w
  OneAndMore : (w next after : WorldState) (number : ℕ) (order : ScriptOrder) (orders : List ScriptOrder) (part rest : List ℕ) → ComesOf order w next
      → Says number order w part → Prints next (suc number) orders rest after → Prints w number (order ∷ orders) (part ++ rest) after

-- an order is carried out, and what is printed of it stands behind the text
abbrev pub PutsStep : ℕ → ScriptOrder → WorldState → WorldState → List ℕ → List ℕ → Type 0
PutsStep number order w next before now =
    (part : List ℕ) × (now ≡ before ++ part) × Says number order w part × ComesOf order w next

-- so with some orders
abbrev pub PutsSteps : WorldState → ℕ → List ScriptOrder → WorldState → List ℕ → List ℕ → Type 0
PutsSteps w number orders after before now =
    (printed : List ℕ) × (now ≡ before ++ printed) × Prints w number orders printed after

-- and what is printed of the members stands behind that
abbrev pub PutsRun : WorldState → List ScriptOrder → WorldState → List ℕ → List ℕ → Type 0
PutsRun w orders after before now =
    (printed members : List ℕ) × (now ≡ (before ++ printed) ++ members) × Prints w 1 orders printed after

-- The text of a run of a script. Each screen is that of a conference that was shown just its member's events so far; and where no plain
-- cast carries an answer, each answer was composed where its question was shown, so that no conference ever lacks it.
pub record IsRunText (setting : Setting) (orders : List ScriptOrder) (text : List ℕ) : Type 0 where
  pub printed : List ℕ
  pub members : List ℕ
  pub text_is : text ≡ printed ++ members
  pub after : WorldState
  pub prints : Prints (new_group setting) 1 orders printed after
  pub questions : CastNoAnswers orders → QuestionsComeFirst (events_in after)
