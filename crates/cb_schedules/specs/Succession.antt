-- Those who go on end a group together at one cut, and begin the next one.
use Rattle.std.specs.Prelude.{ℕ, ◌+◌, ◌<◌, ◌≤◌, Bool, true, false, not, ◌&&◌, ◌||◌, ◌==◌, nat_le, nat_lt, List, [], ◌∷◌, ◌++◌, length, map, filter, Option, Some, None, is_some, is_none, bytes_eq, if◌then◌else◌}
use Rattle.std.specs.List.{list_all, list_any, filter_map, flat_map}
use Rattle.cb_times.specs.Order.{field}
use Rattle.cb_delay.specs.declared.message.Event.{Event}
use Rattle.cb_delay.specs.declared.message.Event.TheVariants.{Cast, Deliver}
use Rattle.cb_delay.specs.Message.{message_of}
use Rattle.cb_frames.specs.Fields.{Load, One, payloads_of}
use Rattle.cb_history.specs.Answers.{delivered}
use Rattle.cb_history.specs.Known.{greatest_of, stable}
use Rattle.cb_schedules.specs.Schedule.{Setting, IsSetting, seat_at, Step, CastStep, ArriveStep, TickStep, HelpStep, GroupState, nothing_yet, step_after}
use Rattle.cb_schedules.specs.Messages.{facts_at, stamped_lists}

-- ---- plans

-- The next group: its number, size and window; those who go on, by their numbers in the old one; and a note of the application.
pub record Plan : Type 0 where
  pub number : ℕ
  pub size : ℕ
  pub window : ℕ
  pub list : List ℕ
  pub note : List ℕ

-- how payloads are read: as a plan, where one is the text of a plan. The laws hold for every way.
abbrev pub Reading : Type 0
Reading = List ℕ → Option Plan

-- a group that can be ended: how payloads are read, and how many places of the window are kept for ENDs
pub record EndableGroup : Type 0 where
  pub setting : Setting
  pub plan_in : Reading
  pub kept : ℕ

pub record IsEndable (g : EndableGroup) : Type 0 where
  pub is_setting : IsSetting g.setting
  pub one_or_more : 1 ≤ g.kept
  pub less : g.kept < g.setting.group.window

-- the plan goes on with member i
abbrev pub is_listed : ℕ → Plan → Bool
is_listed i plan = list_any (λ k. k == i) plan.list

-- ---- ENDs among a member's events

-- An END is a cast whose payload is the text of a plan. The plan of the member's own END that an event is, where it is one.
abbrev pub own_plan : Reading → Event → Option Plan
own_plan plan_in (Cast message) = plan_in message.payload
own_plan plan_in (Deliver message) = None

abbrev pub is_own_end : Reading → Event → Bool
is_own_end plan_in e = is_some (own_plan plan_in e)

-- the plans of all its own ENDs, in their order
abbrev pub own_plans : Reading → List Event → List Plan
own_plans plan_in events = filter_map (own_plan plan_in) events

-- the event is the END with this very text by member k
abbrev pub is_end_by : List ℕ → ℕ → Event → Bool
is_end_by text k e = (message_of e).name.sender == k && bytes_eq text (message_of e).payload

-- an END by somebody whom the plan lists
abbrev pub is_end_in : List ℕ → Plan → Event → Bool
is_end_in text plan e = is_listed (message_of e).name.sender plan && bytes_eq text (message_of e).payload

-- a plan that is read goes on without member i
abbrev pub leaves_out : ℕ → Option Plan → Bool
leaves_out i None = false
leaves_out i (Some plan) = not (is_listed i plan)

-- the events up to and with the first own END, and those behind it
abbrev pub upto_end : Reading → List Event → List Event
upto_end plan_in [] = []
upto_end plan_in (e ∷ events) = if is_own_end plan_in e then e ∷ [] else e ∷ upto_end plan_in events

abbrev pub behind_end : Reading → List Event → List Event
behind_end plan_in [] = []
behind_end plan_in (e ∷ events) = if is_own_end plan_in e then events else behind_end plan_in events

-- The cut as these events tell it: of each sender so many messages as the greatest of the times of the plan's ENDs counts of it.
abbrev pub cut_field : List ℕ → Plan → List Event → ℕ → ℕ
cut_field text plan events s = greatest_of (map (λ e. field (message_of e).time s) (filter (is_end_in text plan) events))

abbrev pub is_in_cut : List ℕ → Plan → List Event → Event → Bool
is_in_cut text plan events e = nat_le (message_of e).name.number (cut_field text plan events (message_of e).name.sender)

-- ---- begins

-- who has begun the next group, by the plan with this text, and which events it was shown at that: of those that were held back
pub record Begin : Type 0 where
  pub member : ℕ
  pub text : List ℕ
  pub plan : Plan
  pub shown : List Event

abbrev pub has_begun : List Begin → ℕ → Bool
has_begun begun i = list_any (λ b. b.member == i) begun

-- somebody whom both plans list has begun by the first one; so it will never cast the END of the later one
abbrev pub is_passed : List Begin → List ℕ → Plan → Plan → Bool
is_passed begun text plan later = list_any (λ b. bytes_eq text b.text && is_listed b.member plan && is_listed b.member later) begun

-- ---- what members may do

-- A member casts loads that are no ENDs as long as it has cast no END itself, has delivered none that leaves it out, and leaves the kept
-- places of its window.
abbrev pub may_talk : EndableGroup → GroupState → ℕ → Load → Bool
may_talk g s i load =
    list_all (λ payload. is_none (g.plan_in payload)) (payloads_of load)
    && list_all (λ e. is_none (own_plan g.plan_in e)) (stamped_lists g.setting s i)
    && list_all (λ e. not (leaves_out i (g.plan_in (message_of e).payload))) (stamped_lists g.setting s i)
    && nat_le (delivered (seat_at g.setting i) (facts_at s i) i + length (payloads_of load) + g.kept)
    (stable (seat_at g.setting i) (facts_at s i) + g.setting.group.window)

-- a plan has a greater number than another one, and nobody whom that one has not
abbrev pub goes_further : Plan → Plan → Bool
goes_further plan before = nat_lt before.number plan.number && list_all (λ k. is_listed k before) plan.list

-- It casts the END of a plan that lists it, as long as it has not begun; of each further plan where that goes further than all before.
abbrev pub may_end : EndableGroup → List Begin → List Event → ℕ → Plan → Bool
may_end g begun events i plan =
    not (has_begun begun i) && is_listed i plan && nat_lt g.setting.group.number plan.number
    && list_all (goes_further plan) (own_plans g.plan_in events)

-- It begins once, when it has the END with this very text of each of the list, its own among them; and for each later own END it has heard
-- somebody of both lists in the next group.
abbrev pub may_begin : EndableGroup → List Begin → List Event → ℕ → List ℕ → Plan → Bool
may_begin g begun events i text plan =
    not (has_begun begun i) && is_listed i plan
    && list_all (λ k. list_any (is_end_by text k) events) plan.list
    && list_all (λ later. not (nat_lt plan.number later.number) || is_passed begun text plan later) (own_plans g.plan_in events)

-- At that it is shown, of what it delivered behind its first END, what is in the cut.
abbrev pub shown_at_begin : EndableGroup → List Event → List ℕ → Plan → List Event
shown_at_begin g events text plan = filter (is_in_cut text plan events) (behind_end g.plan_in events)

-- how members decide; what follows is said for any way, and the laws of this one
pub record Rules : Type 0 where
  pub may_end : EndableGroup → List Begin → List Event → ℕ → Plan → Bool
  pub may_begin : EndableGroup → List Begin → List Event → ℕ → List ℕ → Plan → Bool
  pub shown_at_begin : EndableGroup → List Event → List ℕ → Plan → List Event

abbrev pub the_rules : Rules
the_rules = record { may_end = may_end; may_begin = may_begin; shown_at_begin = shown_at_begin }

-- ---- steps

-- A step of a schedule, in which a cast is made where it is allowed; a member casts the END with this text; or it begins the next group by
-- the plan with this text. A step that is not allowed changes nothing.
pub data SuccessionStep : Type 0 where
  Happens : Step → SuccessionStep
  Ends : ℕ → List ℕ → SuccessionStep
  Begins : ℕ → List ℕ → SuccessionStep

pub record SuccessionState : Type 0 where
  pub group : GroupState
  pub begun : List Begin

abbrev pub may_happen : EndableGroup → GroupState → Step → Bool
may_happen g s (CastStep i load) = may_talk g s i load
may_happen g s (ArriveStep j number) = true
may_happen g s (TickStep i) = true
may_happen g s (HelpStep j i) = true

abbrev pub and_happens : EndableGroup → SuccessionState → Step → SuccessionState
and_happens g t step = record { group = step_after g.setting t.group step; begun = t.begun }

abbrev pub and_ends : Rules → EndableGroup → SuccessionState → ℕ → List ℕ → Option Plan → SuccessionState
and_ends rules g t i text None = t
and_ends rules g t i text (Some plan) =
    if rules.may_end g t.begun (stamped_lists g.setting t.group i) i plan then and_happens g t (CastStep i (One text)) else t

abbrev pub and_begins : Rules → EndableGroup → SuccessionState → ℕ → List ℕ → Option Plan → SuccessionState
and_begins rules g t i text None = t
and_begins rules g t i text (Some plan) =
    if rules.may_begin g t.begun (stamped_lists g.setting t.group i) i text plan
    then record {
      group = t.group;
      begun = t.begun ++ record {
        member = i;
        text = text;
        plan = plan;
        shown = rules.shown_at_begin g (stamped_lists g.setting t.group i) text plan;
      } ∷ [];
    }
    else t

unfoldable pub succession_step : Rules → EndableGroup → SuccessionState → SuccessionStep → SuccessionState
succession_step rules g t (Happens step) = if may_happen g t.group step then and_happens g t step else t
succession_step rules g t (Ends i text) = and_ends rules g t i text (g.plan_in text)
succession_step rules g t (Begins i text) = and_begins rules g t i text (g.plan_in text)

unfoldable pub succession_from : Rules → EndableGroup → SuccessionState → List SuccessionStep → SuccessionState
succession_from rules g t [] = t
succession_from rules g t (step ∷ steps) = succession_from rules g (succession_step rules g t step) steps

abbrev pub nobody_yet : SuccessionState
nobody_yet = record { group = nothing_yet; begun = [] }

-- the run of a list of such steps
abbrev pub succession : Rules → EndableGroup → List SuccessionStep → SuccessionState
succession rules g steps = succession_from rules g nobody_yet steps

-- ---- what members are shown

-- up to and with its first END each event at once, and at the begin what is in the cut of those that were held back
abbrev pub shown : EndableGroup → SuccessionState → ℕ → List Event
shown g t i =
    upto_end g.plan_in (stamped_lists g.setting t.group i)
    ++ flat_map (λ b. b.shown) (filter (λ b. b.member == i) t.begun)
