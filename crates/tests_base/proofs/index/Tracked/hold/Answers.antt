use Rattle.std.proofs.Common.{arith}
use Rattle.tests_base.proofs.Tracking.{count_of-le, tracked_holding}
use Rattle.tests_base.proofs.index.Tracked.hold.Goals as goal

pub hold-requires-clause-room : goal.hold-requires-clause-room
hold-requires-clause-room c =
    omega (arith, count_of-le c.args.self.now.queue c.args.message.name.sender, c.requires.room, c.requires.tracked.window_is)

pub returns-clause-tracked : goal.returns-clause-tracked
returns-clause-tracked c =
    tracked_holding c.args.self.now.queue c.args.self.now.next.items c.requires.tracked c.hold.new.self
    c.hold.ensures.held.size c.hold.ensures.held.window c.args.message c.hold.ensures.held.now_held
    (omega (arith, c.requires.group.sender, c.requires.tracked.numbers)) c.requires.next
