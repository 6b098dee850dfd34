use Rattle.std.proofs.Common.{arith}
use Rattle.cb_delay.specs.Lists.{AreLists, queue_of}
use Rattle.cb_delay.specs.Index.{settled_at}
use Rattle.cb_delay.proofs.Deques.{lists_of, AreReserved, hold_room, hold_keeps, hold_index, hold_sum, hold_gives, few-held, follows_unseen, holds_seen}
use Rattle.cb_delay.proofs.queue.DelayQueue.hold.Goals as goal

pub push_back_reserved-requires : goal.push_back_reserved-requires
push_back_reserved-requires c =
    let known = rw (← c.self.view_is) at c.requires in
    hold_room c.self.inside.window c.self.inside.lists.items (c.self.invariant.0, c.self.invariant.1) c.args.message c.index_mut-list.result.now
    c.index_mut-list.ensures.value known.of_group known.room

pub overflow_add-self : goal.overflow_add-self
overflow_add-self c =
    omega (arith, c.self.invariant.3, few-held c.self.inside.window c.self.inside.lists.items c.self.invariant.0)

pub invariant_of-self : goal.invariant_of-self
invariant_of-self c =
    let known = rw (← c.self.view_is) at c.requires in
    let deques = c.self.inside.lists.items in
    let kept : AreLists c.self.inside.window (lists_of deques) × AreReserved c.self.inside.window deques = (c.self.invariant.0, c.self.invariant.1) in
    let here = c.index_mut-list.ensures.value in
    let follows =
    follows_unseen {queue = queue_of c.self.inside.window (lists_of deques)} {name = c.args.message.name} c.self.inside.index.looked (settled_at c.self.inside.index) known.next in
    let lists =
    hold_keeps c.self.inside.window deques kept c.args.message c.index_mut-list.result.now here known.of_group known.room follows
    c.push_back_reserved.new.self c.push_back_reserved.ensures.items c.push_back_reserved.ensures.capacity in (
      lists.0,
      lists.1,
      hold_index c.self.inside.window deques kept c.args.message c.index_mut-list.result.now here known.of_group known.room follows
          c.push_back_reserved.new.self c.push_back_reserved.ensures.items c.push_back_reserved.ensures.capacity
          c.self.inside.index c.stale_with-self-inside.result c.self.invariant.2
          c.stale_with-self-inside.ensures.others c.stale_with-self-inside.ensures.stays c.stale_with-self-inside.ensures.other,
      hold_sum c.self.inside.window deques kept c.args.message c.index_mut-list.result.now here known.of_group known.room follows
          c.push_back_reserved.new.self c.push_back_reserved.ensures.items c.push_back_reserved.ensures.capacity
          c.self.inside.held c.self.invariant.3,
    )

pub returns-clause-held : goal.returns-clause-held
returns-clause-held c =
    let known = rw (← c.self.view_is) at c.requires in
    let deques = c.self.inside.lists.items in
    let follows =
    follows_unseen {queue = queue_of c.self.inside.window (lists_of deques)} {name = c.args.message.name} c.self.inside.index.looked (settled_at c.self.inside.index) known.next in
    rw (← c.self.view_is)
    (holds_seen _ _ _ _
    (hold_gives c.self.inside.window deques (c.self.invariant.0, c.self.invariant.1) c.args.message c.index_mut-list.result.now
    c.index_mut-list.ensures.value known.of_group known.room follows
    c.push_back_reserved.new.self c.push_back_reserved.ensures.items c.push_back_reserved.ensures.capacity))
