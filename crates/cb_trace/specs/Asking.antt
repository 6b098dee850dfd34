-- What is asked of the run of a joint order.
use Rattle.std.specs.Prelude.{◌≡◌, ◌≢◌, ℕ, List, length, map, slice_get, Some}
use Rattle.cb_times.specs.declared.name.Name.{Name}
use Rattle.cb_delay.specs.declared.message.Message.{Message}
use Rattle.cb_delay.specs.declared.message.Event.{Event}
use Rattle.cb_delay.specs.declared.message.Event.TheVariants.{Cast}
use Rattle.cb_schedules.specs.Schedule.{Setting, IsSettingOfHistories, GroupState}
use Rattle.cb_schedules.specs.Messages.{WasCast, time_from_bytes}
use Rattle.cb_world.specs.declared.step.Step.{Step}
use Rattle.cb_world.specs.Steps.{step_fields}
use Rattle.cb_world.specs.World.{WorldState}

-- the steps are those that the world took, and the limit is that of its histories
pub record IsOfWorld (w : WorldState) (steps : List Step) (history_max : ℕ) : Type 0 where
  pub setting_is : IsSettingOfHistories w.setting
  pub steps_are : map step_fields steps ≡ w.steps
  pub limit_is : history_max ≡ w.setting.limit

-- some event is the cast of this message, which has this time
pub record HasCastOf (events : List Event) (name : Name) (time : List ℕ) : Type 0 where
  pub index : ℕ
  pub message : Message
  pub stands : slice_get events index ≡ Some (Cast message)
  pub named : message.name ≡ name
  pub time_is : message.time ≡ time

-- none is
abbrev pub HasNoCastOf : List Event → Name → Type 0
HasNoCastOf events name = (index : ℕ) (message : Message) → slice_get events index ≡ Some (Cast message) → message.name ≢ name

-- it was cast, and this is its time from the bytes, which has a field for each member
pub record IsCastAtTime (setting : Setting) (s : GroupState) (name : Name) (time : List ℕ) : Type 0 where
  pub cast : WasCast setting s name
  pub time_is : time ≡ time_from_bytes setting s name
  pub fields : length time ≡ setting.group.size
