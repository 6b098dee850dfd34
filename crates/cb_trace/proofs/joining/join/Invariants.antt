use Rattle.std.proofs.Common.{map}
use Rattle.cb_trace.specs.Text.{history_fields}
use Rattle.cb_trace.specs.Search.{IsJoining}
use Rattle.cb_trace.proofs.OneStep.{left_over}
use Rattle.cb_trace.proofs.joining.join.Given as goal

abbrev pub invariant-loop-step : goal.invariant-loop-step
invariant-loop-step l = IsJoining l.fn.joining.world.setting (map history_fields l.histories) l.joining

-- each step takes one of the entries that are left
abbrev pub decreases-loop-step : goal.decreases-loop-step
decreases-loop-step l = left_over (map history_fields l.histories) l.joining.gone.items
