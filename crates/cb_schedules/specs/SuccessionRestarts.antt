-- Successions of members with journals, which end and come back.
use Rattle.std.specs.Prelude.{◌≡◌, ℕ, Bool, true, ◌&&◌, ◌==◌, List, [], ◌∷◌, ◌++◌, length, filter, Option, Some, None, if◌then◌else◌}
use Rattle.std.specs.List.{flat_map}
use Rattle.cb_delay.specs.declared.message.Event.{Event}
use Rattle.cb_frames.specs.Fields.{One}
use Rattle.cb_schedules.specs.Schedule.{CastStep}
use Rattle.cb_schedules.specs.Messages.{stamped_lists}
use Rattle.cb_schedules.specs.Restarts.{JournaledState, nothing_journaled, JournaledStep, EnterStep, WriteStep, SendStep, HandOutStep, RestartStep, WriteFirst, journaled_step, there_now}
use Rattle.cb_schedules.specs.RestartLaws.{written_events}
use Rattle.cb_schedules.specs.Succession.{Plan, EndableGroup, IsEndable, upto_end, Begin, may_end, may_begin, shown_at_begin, may_happen, SuccessionState}

-- A step of members with journals, in which a cast is entered where it is allowed; a member enters the END with this text; or it begins the
-- next group: its begin is written, in the next group's journal.
pub data JournaledSuccessionStep : Type 0 where
  Journals : JournaledStep → JournaledSuccessionStep
  EntersEnd : ℕ → List ℕ → JournaledSuccessionStep
  WritesBegin : ℕ → List ℕ → JournaledSuccessionStep

-- what members have in memory and in the old group's journals; and the begins, each of which is written as soon as it is made
pub record JournaledSuccession : Type 0 where
  pub journaled : JournaledState
  pub begun : List Begin

-- what there is now, as a state of a succession
abbrev pub succession_now : JournaledSuccession → SuccessionState
succession_now x = record { group = there_now x.journaled; begun = x.begun }

abbrev pub may_journal : EndableGroup → JournaledState → JournaledStep → Bool
may_journal g r (EnterStep step) = may_happen g (there_now r) step
may_journal g r (WriteStep j) = true
may_journal g r (SendStep j n) = true
may_journal g r (HandOutStep j) = true
may_journal g r (RestartStep j) = true

abbrev pub and_journals : EndableGroup → JournaledSuccession → JournaledStep → JournaledSuccession
and_journals g x step = record { journaled = journaled_step WriteFirst g.setting x.journaled step; begun = x.begun }

abbrev pub and_enters_end : EndableGroup → JournaledSuccession → ℕ → List ℕ → Option Plan → JournaledSuccession
and_enters_end g x i text None = x
and_enters_end g x i text (Some plan) =
    if may_end g x.begun (stamped_lists g.setting (there_now x.journaled) i) i plan then and_journals g x (EnterStep (CastStep i (One text))) else x

-- all entries of the member are written
abbrev pub is_written : JournaledState → ℕ → Bool
is_written r i = r.written i == length (r.histories i)

abbrev pub and_writes_begin : EndableGroup → JournaledSuccession → ℕ → List ℕ → Option Plan → JournaledSuccession
and_writes_begin g x i text None = x
and_writes_begin g x i text (Some plan) =
    if is_written x.journaled i && may_begin g x.begun (stamped_lists g.setting (there_now x.journaled) i) i text plan
    then record {
      journaled = x.journaled;
      begun = x.begun ++ record {
        member = i;
        text = text;
        plan = plan;
        shown = shown_at_begin g (stamped_lists g.setting (there_now x.journaled) i) text plan;
      } ∷ [];
    }
    else x

-- a step that is not allowed changes nothing
unfoldable pub journaled_succession_step : EndableGroup → JournaledSuccession → JournaledSuccessionStep → JournaledSuccession
journaled_succession_step g x (Journals step) = if may_journal g x.journaled step then and_journals g x step else x
journaled_succession_step g x (EntersEnd i text) = and_enters_end g x i text (g.plan_in text)
journaled_succession_step g x (WritesBegin i text) = and_writes_begin g x i text (g.plan_in text)

unfoldable pub journaled_succession_from : EndableGroup → JournaledSuccession → List JournaledSuccessionStep → JournaledSuccession
journaled_succession_from g x [] = x
journaled_succession_from g x (step ∷ steps) = journaled_succession_from g (journaled_succession_step g x step) steps

abbrev pub journaled_succession : EndableGroup → List JournaledSuccessionStep → JournaledSuccession
journaled_succession g steps = journaled_succession_from g (record { journaled = nothing_journaled; begun = [] }) steps

-- ---- laws

-- it holds of what there is after all steps, whoever ended and came back
abbrev pub EachJournaledSuccession : (EndableGroup → SuccessionState → Type 0) → Type 0
EachJournaledSuccession P =
    (g : EndableGroup) (steps : List JournaledSuccessionStep) → IsEndable g → P g (succession_now (journaled_succession g steps))

-- what a member is shown where its caller is shown written events alone
abbrev pub shown_written : EndableGroup → JournaledSuccession → ℕ → List Event
shown_written g x i =
    upto_end g.plan_in (written_events g.setting x.journaled i) ++ flat_map (λ b. b.shown) (filter (λ b. b.member == i) x.begun)

-- by no step it is taken back, restarts among them
abbrev pub WhatWasShownOutlivesRestarts : Type 0
WhatWasShownOutlivesRestarts =
    (g : EndableGroup) (steps : List JournaledSuccessionStep) (step : JournaledSuccessionStep) (i : ℕ) → IsEndable g
    → (more : List Event)
    × (shown_written g (journaled_succession g (steps ++ step ∷ [])) i ≡ shown_written g (journaled_succession g steps) i ++ more)
