use Rattle.std.proofs.Common.{◌≡◌, arith}
use Rattle.cb_delay.specs.Queue.{count_of}
use Rattle.cb_delay.proofs.Room.{count_of-none, none_is_held, only_is_held}
use Rattle.tests_base.proofs.queues.queue_with.Goals as goal

pub hold-requires-clause-room : goal.hold-requires-clause-room
hold-requires-clause-room c =
    let empty = c.in_ok-queue.ensures.empty in
    let none : count_of c.in_ok-queue.queue c.args.message.name.sender ≡ 0 =
    count_of-none c.in_ok-queue.queue c.args.message.name.sender c.len-none.ensures.queue
    (λ held is _. none_is_held c.in_ok-queue.queue empty held is) in
    omega (arith, none, c.in_ok-queue.ensures.of_window)

pub hold-requires-clause-next : goal.hold-requires-clause-next
hold-requires-clause-next c last is =
    absurd (none_is_held c.in_ok-queue.queue c.in_ok-queue.ensures.empty last is.held)

pub returns-clause-only : goal.returns-clause-only
returns-clause-only c =
    only_is_held c.in_ok-queue.queue c.hold.new.self c.args.message
    c.in_ok-queue.ensures.empty c.hold.ensures.held.now_held
