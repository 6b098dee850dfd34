-- The headline: causal broadcast by vector times, over lost, repeated and reordered frames.
use Rattle.std.specs.Prelude.{◌↔◌, ℕ}
use Rattle.cb_times.specs.Order.{field, Compares}
use Rattle.cb_times.specs.declared.name.Name.{Name}
use Rattle.cb_times.specs.declared.order.TimeOrder.{TimeOrder}
use Rattle.cb_causality.specs.CausalMachine.{Run}
use Rattle.cb_causality.specs.CausalMachine as causal
use Rattle.cb_causality.specs.StampedMachine.{StampedStep}
use Rattle.cb_causality.specs.Extension.{Extends}
use Rattle.cb_causality.specs.Laws.{Related}
use Rattle.cb_schedules.specs.Schedule.{Setting, IsSetting, Step, Schedule, GroupState, step_after, run}
use Rattle.cb_schedules.specs.Messages.{stamped_lists, causal_lists, WasCast, HasDelivered, IsClosedArrival, time_from_bytes}

-- it holds after every schedule, for every group and every history limit
abbrev pub EachSchedule : (Setting → GroupState → Type 0) → Type 0
EachSchedule P = (setting : Setting) (steps : Schedule) → IsSetting setting → P setting (run setting steps)

-- the members' casts and deliveries are a run of the causal broadcast machine
abbrev pub IsCausalBroadcast : Setting → GroupState → Type 0
IsCausalBroadcast setting s = Run setting.group.size (causal_lists setting s)

-- a member has delivered a message exactly when it is a closed arrival there
abbrev pub DeliversClosedArrivals : Setting → GroupState → Type 0
DeliversClosedArrivals setting s = (j : ℕ) (m : Name) → HasDelivered setting s j m ↔ IsClosedArrival setting s j m

-- the times from the bytes compare, for any two messages that were cast, exactly as happened-before does
abbrev pub TimesTellHappenedBefore : Setting → GroupState → Type 0
TimesTellHappenedBefore setting s =
    (a b : Name) → WasCast setting s a → WasCast setting s b → (order : TimeOrder)
    → Compares (field (time_from_bytes setting s a)) (field (time_from_bytes setting s b)) order ↔ Related (causal_lists setting s) a b order

-- The headline: these three, after every schedule.
pub record Headline (setting : Setting) (s : GroupState) : Type 0 where
  pub causal : IsCausalBroadcast setting s
  pub delivered : DeliversClosedArrivals setting s
  pub times : TimesTellHappenedBefore setting s

-- ---- step by step

-- one more step of a schedule extends the events, with their times, by steps of the stamped machine
abbrev pub StepsExtendTheStamped : Type 0
StepsExtendTheStamped =
    (setting : Setting) (steps : Schedule) (step : Step) → IsSetting setting
    → Extends (StampedStep setting.group.size) (stamped_lists setting (run setting steps)) (stamped_lists setting (step_after setting (run setting steps) step))

-- and without their times by steps of the causal machine
abbrev pub StepsExtendTheCausal : Type 0
StepsExtendTheCausal =
    (setting : Setting) (steps : Schedule) (step : Step) → IsSetting setting
    → Extends (causal.Step setting.group.size) (causal_lists setting (run setting steps)) (causal_lists setting (step_after setting (run setting steps) step))
