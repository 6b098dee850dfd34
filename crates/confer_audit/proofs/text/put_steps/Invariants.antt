use Rattle.std.proofs.Common.{◌≡◌, ◌++◌, map, drop}
use Rattle.std.specs.List.{flat_map}
use Rattle.cb_world.specs.Steps.{step_fields}
use Rattle.confer_audit.specs.Audit.{step_text}
use Rattle.confer_audit.proofs.text.put_steps.Given as goal

abbrev pub invariant-loop-step : goal.invariant-loop-step
invariant-loop-step l =
    l.out.items ++ flat_map step_text (map step_fields (drop l.step-index l.steps))
    ≡ l.fn.out.items ++ flat_map step_text (map step_fields l.steps)
