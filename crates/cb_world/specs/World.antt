-- A group of members that runs a schedule.
use Rattle.std.specs.Prelude.{◌≡◌, ℕ, ◌+◌, ◌≤◌, List, ◌∷◌, ◌++◌, [], length, slice_get, Some}
use Rattle.std.specs.declared.vec.Vec.{Vec}
use Rattle.std.specs.Vec.{vec_capacity, vec_len}
use Rattle.std.specs.declared.alloc.Global.{Global}
use Rattle.cb_history.specs.Group.{AreParameters}
use Rattle.cb_history.specs.State.{MemberState}
use Rattle.cb_schedules.specs.Schedule.{Setting, IsSettingOfHistories, Schedule, GroupState, seat_at, run}
use Rattle.cb_schedules.specs.Schedule as schedules
use Rattle.cb_world.specs.declared.step.Step.{Step}
use Rattle.cb_world.specs.declared.taking.TheConstants.{MOST_SENT_OUT}
use Rattle.cb_world.specs.declared.outcome.Outcome.{Outcome}
use Rattle.cb_world.specs.declared.outcome.Sent.{Sent}
use Rattle.cb_world.specs.Outcomes.{AreOutcomes}
use Rattle.cb_world.specs.Taking.{member_at, Stands}

-- the group with its limit, and the steps that it took
pub record WorldState : Type 0 where
  pub setting : Setting
  pub steps : Schedule

-- the run of these steps
abbrev pub run_in : WorldState → GroupState
run_in w = run w.setting w.steps

-- one step more
abbrev pub and_step : WorldState → schedules.Step → WorldState
and_step w step = record { setting = w.setting; steps = w.steps ++ step ∷ [] }

abbrev pub and_steps : WorldState → Schedule → WorldState
and_steps w steps = record { setting = w.setting; steps = w.steps ++ steps }

-- member i as the run leaves it
abbrev pub member_in : WorldState → ℕ → MemberState
member_in w i = member_at w.setting (run_in w) i

-- the members, the frames and the outcomes are those of the run
pub record IsWorld (w : WorldState) (members : List MemberState) (sent : List Sent) (outcomes : List Outcome) : Type 0 where
  pub setting_is : IsSettingOfHistories w.setting
  pub stands : Stands w.setting (run_in w) members sent
  pub outcomes_are : AreOutcomes w.setting w.steps outcomes

-- member i as it starts
abbrev pub new_member : Setting → ℕ → MemberState
new_member setting i = record { seat = seat_at setting i; limit = setting.limit; entries = [] }

-- each member of the group, in order, without entries
pub record AreNewMembers (setting : Setting) (members : List MemberState) : Type 0 where
  pub group : AreParameters setting.group
  pub many : length members ≡ setting.group.size
  pub new : (i : ℕ) (m : MemberState) → slice_get members i ≡ Some m → m ≡ new_member setting i

-- there is room for a step more, its outcome and what it sends
pub record HasRoom (steps : Vec Step Global) (outcomes : Vec Outcome Global) (sent : Vec Sent Global) : Type 0 where
  pub step : vec_len steps + 1 ≤ vec_capacity steps
  pub outcome : vec_len outcomes + 1 ≤ vec_capacity outcomes
  pub frames : vec_len sent + MOST_SENT_OUT ≤ vec_capacity sent
