use Rattle.std.proofs.Common.{◌+◌, ◌≤◌, arith, ap}
use Rattle.cb_times.specs.declared.name.Name.{Name}
use Rattle.cb_delay.specs.Queue.{count_of}
use Rattle.cb_delay.proofs.Room.{count_is_within}
use Rattle.tests_base.proofs.queues.hold_second.Goals as goal

pub hold-requires-clause-room : goal.hold-requires-clause-room
hold-requires-clause-room c =
    let low = c.args.first.number in
    let few : low + count_of c.args.queue.now c.args.message.name.sender ≤ low + 1 =
    count_is_within c.args.queue.now c.args.message.name.sender low (low + 1) c.len-one.ensures.queue (omega arith)
    (λ held is of. let same = ap (λ (n : Name). n.number) (c.requires.only held is) in (omega (arith, same), omega (arith, same))) in
    omega (arith, few, c.requires.window)
