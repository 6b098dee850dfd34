use Rattle.std.proofs.Common.{◌≡◌, ◌++◌, map, drop}
use Rattle.cb_world.specs.Steps.{step_fields}
use Rattle.cb_world.proofs.run.run_on.Given as goal

-- the steps taken so far, and those still to come
abbrev pub invariant-loop-step : goal.invariant-loop-step
invariant-loop-step l = record {
  setting : l.world.setting ≡ l.fn.world.setting;
  steps : l.world.steps ++ map step_fields (drop l.step-index l.steps) ≡ l.fn.world.steps ++ map step_fields l.steps;
}
