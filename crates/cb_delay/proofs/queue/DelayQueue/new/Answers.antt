use Rattle.std.proofs.Common.{subst, arith}
use Rattle.cb_times.specs.Group.{IsGroupSize}
use Rattle.cb_delay.specs.Index.{settled_at}
use Rattle.cb_delay.proofs.Deques.{new_keeps, new_gives, new_index, new_sum}
use Rattle.cb_delay.proofs.queue.DelayQueue.new.Goals as goal

pub invariant_of-result : goal.invariant_of-result
invariant_of-result c =
    let lists =
    new_keeps c.args.window c.loop.lists.items c.loop.invariant.fresh
    (subst IsGroupSize (omega arith) c.requires.group) c.requires.window in (
      lists.0,
      lists.1,
      new_index c.args.window c.loop.lists.items c.loop.invariant.fresh c.args.size c.in_ok-index.index c.requires.group (omega arith) c.in_ok-index.ensures,
      new_sum c.args.window c.loop.lists.items c.loop.invariant.fresh,
    )

pub returns : goal.returns
returns c =
    new_gives c.args.window c.loop.lists.items c.loop.invariant.fresh
    (new_keeps c.args.window c.loop.lists.items c.loop.invariant.fresh
    (subst IsGroupSize (omega arith) c.requires.group) c.requires.window).0
    c.args.size c.in_ok-index.index.looked (settled_at c.in_ok-index.index) (omega arith) c.in_ok-index.ensures.looked
