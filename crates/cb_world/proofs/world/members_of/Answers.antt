use Rattle.std.proofs.Common.{arith}
use Rattle.cb_schedules.specs.Schedule.{Setting}
use Rattle.cb_world.proofs.Starting.{one_more_new}
use Rattle.cb_world.proofs.world.members_of.Goals as goal

pub loop-me-preserved : goal.loop-me-preserved
loop-me-preserved c =
    let setting : Setting = record { group = c.args.group; limit = c.args.limit } in
    record {
      many = omega (arith, c.in_ok-push-in-Ok.ensures.len, c.loop-me.invariant.many);
      new = one_more_new setting c.loop-me.members.items c.push.new.self.items c.in-Ok.member c.loop-me.me c.in_ok-push-in-Ok.ensures.items c.loop-me.invariant.many c.in-Ok.ensures.ok c.loop-me.invariant.new;
    }
