use Rattle.cb_trace.proofs.JointRuns.{run_has_the_histories}
use Rattle.cb_trace.proofs.laws.joint.joint_orders_are_schedules.Goals as goal

pub returns : goal.returns
returns c = run_has_the_histories
