-- Other ways to decide, each of which looks good and is wrong.
use Rattle.std.specs.Prelude.{◌≡◌, ℕ, Bool, true, false, not, ◌&&◌, ◌||◌, ◌==◌, nat_le, nat_lt, List, [], Option, Some, None, is_some}
use Rattle.std.specs.List.{list_all, list_any, filter}
use Rattle.cb_delay.specs.declared.message.Event.{Event}
use Rattle.cb_delay.specs.Message.{message_of}
use Rattle.cb_causality.specs.StampedMachine.{counts_of}
use Rattle.cb_history.specs.Answers.{is_window_full}
use Rattle.cb_schedules.specs.Schedule.{IsSetting, seat_at}
use Rattle.cb_schedules.specs.Messages.{facts_at, stamped_lists}
use Rattle.cb_schedules.specs.Succession.{Plan, Reading, EndableGroup, IsEndable, is_listed, own_plans, is_end_by, behind_end, has_begun, is_passed, may_end, may_begin, shown_at_begin, Rules, the_rules, SuccessionStep, SuccessionState, succession}

-- decided so, some list of steps leads to where it does not hold
abbrev pub Breaks : Rules → (EndableGroup → SuccessionState → Type 0) → Type 0
Breaks rules P = (g : EndableGroup) × (steps : List SuccessionStep) × IsEndable g × (P g (succession rules g steps) → ⊥)

-- ---- when to begin

-- by an earlier plan too, without having heard anybody in its group
abbrev pub takes_older : Rules
takes_older = record {
  may_end = may_end;
  may_begin = λ g begun events i text plan.
      not (has_begun begun i) && is_listed i plan && list_all (λ k. list_any (is_end_by text k) events) plan.list;
  shown_at_begin = shown_at_begin;
}

-- an END of any plan by each of the list, of which each member casts one for good
abbrev pub is_some_end : Reading → ℕ → Event → Bool
is_some_end plan_in k e = (message_of e).name.sender == k && is_some (plan_in (message_of e).payload)

abbrev pub ends_once : Rules
ends_once = record {
  may_end = λ g begun events i plan. may_end g begun events i plan && not (list_any (λ q. true) (own_plans g.plan_in events));
  may_begin = λ g begun events i text plan.
      not (has_begun begun i) && is_listed i plan && list_all (λ k. list_any (is_some_end g.plan_in k) events) plan.list;
  shown_at_begin = shown_at_begin;
}

-- ENDs of one number are taken for one, whatever their texts are
abbrev pub has_number : ℕ → Option Plan → Bool
has_number number None = false
has_number number (Some plan) = plan.number == number

abbrev pub no_compare : Rules
no_compare = record {
  may_end = may_end;
  may_begin = λ g begun events i text plan.
      not (has_begun begun i) && is_listed i plan
      && list_all (λ k. list_any (λ e. (message_of e).name.sender == k && has_number plan.number (g.plan_in (message_of e).payload)) events) plan.list
      && list_all (λ later. not (nat_lt plan.number later.number) || is_passed begun text plan later) (own_plans g.plan_in events);
  shown_at_begin = shown_at_begin;
}

-- ---- what is shown

-- all that was delivered
abbrev pub shows_all : Rules
shows_all = record { may_end = may_end; may_begin = may_begin; shown_at_begin = λ g events text plan. behind_end g.plan_in events }

-- what the member's time counts when it begins
abbrev pub cut_is_now : Rules
cut_is_now = record {
  may_end = may_end;
  may_begin = may_begin;
  shown_at_begin = λ g events text plan.
      filter (λ e. nat_le (message_of e).name.number (counts_of events (message_of e).name.sender)) (behind_end g.plan_in events);
}

-- ---- no kept places

-- where no place is kept, some list of steps leaves a member without an END, whose window has no room for one
abbrev pub NoReserveLeavesNoRoom : Type 0
NoReserveLeavesNoRoom =
    (g : EndableGroup) × (steps : List SuccessionStep) × (i : ℕ) × IsSetting g.setting × (g.kept ≡ 0)
    × (own_plans g.plan_in (stamped_lists g.setting (succession the_rules g steps).group i) ≡ [])
    × (is_window_full (seat_at g.setting i) (facts_at (succession the_rules g steps).group i) ≡ true)
