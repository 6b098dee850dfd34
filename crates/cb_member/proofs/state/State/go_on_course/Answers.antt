use Rattle.std.proofs.Common.{subst}
use Rattle.cb_frames.specs.Fields.{CastFields}
use Rattle.cb_member.specs.Course.{TakesAndDelivers}
use Rattle.cb_member.proofs.state.State.go_on_course.Goals as goal

pub returns-in-Early-clause-takes : goal.returns-in-Early-clause-takes
returns-in-Early-clause-takes c = c.take_early.ensures c.args.events.now.items

pub returns-in-Waits-clause-takes : goal.returns-in-Waits-clause-takes
returns-in-Waits-clause-takes c =
    let events = c.args.events.now.items in
    subst (λ (cast : CastFields). TakesAndDelivers cast c.args.self.now c.let_wait.new.self events events) c.only_cast.ensures (c.let_wait.ensures events)
