-- The steps of the program as those of a schedule.
use Rattle.std.specs.Prelude.{ℕ}
use Rattle.cb_frames.specs.Fields.{One, Many}
use Rattle.cb_schedules.specs.Schedule.{CastStep, ArriveStep, TickStep, HelpStep}
use Rattle.cb_schedules.specs.Schedule as schedules
use Rattle.cb_world.specs.declared.step.Step.{Step}
use Rattle.cb_world.specs.declared.step.Step.TheVariants as steps

abbrev pub step_fields : Step → schedules.Step
step_fields (steps.Cast i payload) = CastStep i (One payload)
step_fields (steps.Burst i payloads) = CastStep i (Many payloads.items)
step_fields (steps.Arrive j number) = ArriveStep j number
step_fields (steps.Tick i) = TickStep i
step_fields (steps.Help j i) = HelpStep j i

-- the member that does something
abbrev pub member_of : schedules.Step → ℕ
member_of (CastStep i load) = i
member_of (ArriveStep j number) = j
member_of (TickStep i) = i
member_of (HelpStep j i) = j
