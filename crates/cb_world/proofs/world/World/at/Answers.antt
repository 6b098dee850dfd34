use Rattle.cb_schedules.specs.Schedule.{Setting}
use Rattle.cb_world.proofs.Starting.{starts}
use Rattle.cb_world.proofs.world.World.at.Goals as goal

pub invariant_of-result : goal.invariant_of-result
invariant_of-result c =
    let setting : Setting = record { group = c.args.group; limit = c.args.limit } in
    starts setting c.in_ok-members_of.field-0.items c.new.result.items c.new-2.result.items c.new-3.result.items c.requires.0 c.requires.1 c.in_ok-members_of.ensures c.new.ensures.items c.new-2.ensures.items c.new-3.ensures.items
