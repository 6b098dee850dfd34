use Rattle.std.proofs.Common.{subst}
use Rattle.std.specs.Prelude.{MatchOption}
use Rattle.cb_schedules.specs.Messages.{WasCast}
use Rattle.cb_world.specs.World.{WorldState, run_in}
use Rattle.cb_trace.specs.Asking.{IsCastAtTime}
use Rattle.cb_trace.proofs.Asked.{time_found, nobody_cast}
use Rattle.cb_trace.proofs.joint.Joint.time_of.Goals as goal

pub returns-in-Some-clause-time : goal.returns-in-Some-clause-time
returns-in-Some-clause-time c =
    subst (λ (w : WorldState). MatchOption c.cast_time.result (¬ WasCast w.setting (run_in w) c.args.name) (λ time. IsCastAtTime w.setting (run_in w) c.args.name time.now)) c.self.view_is
    (time_found c.self.inside.world c.self.invariant.setting_is.is_setting (λ time. time.now) c.args.name c.in-Some.events.now c.cast_time.result c.in-Some.ensures.events c.cast_time.ensures)

pub returns-in-None-clause-time : goal.returns-in-None-clause-time
returns-in-None-clause-time c =
    subst (λ (w : WorldState). ¬ WasCast w.setting (run_in w) c.args.name) c.self.view_is (nobody_cast c.self.inside.world c.self.invariant.setting_is.is_setting c.args.name c.in-None.ensures.events)
