use Rattle.std.proofs.Common.{rules}
use Rattle.cb_trace.proofs.Asked.{before_decided}
use Rattle.cb_trace.proofs.joint.Joint.before.Goals as goal

pub returns-clause-before : goal.returns-clause-before
returns-clause-before c =
    before_decided c.args.self.now c.time_of.ensures.setting.is_setting c.args.a c.args.b c.in-Some.first.now c.in-Some-time_of.second.now c.compare.result c.eq.result c.in-Some.ensures.time c.in-Some-time_of.ensures.time
    c.compare.ensures (search rules)
