use Rattle.cb_member.proofs.Putting.{alone_then_settled, delivers_alone}
use Rattle.cb_member.proofs.delivery.Delivery.deliver_alone.Goals as goal

pub tell_queue-requires : goal.tell_queue-requires
tell_queue-requires c = (c.requires.alone.turn c.window-window.ensures.queue).0.sender

pub returns-clause-delivers : goal.returns-clause-delivers
returns-clause-delivers c =
    alone_then_settled c.args.message c.args.self.now (record c.args.self.now { time = c.add_one.new.self }) c.tell_queue.new.self c.args.events.now.items _
    (delivers_alone c.args.self.now c.args.message c.window-window.ensures.queue c.requires.alone c.add_one.new.self c.add_one.ensures c.args.events.now.items _ c.push_reserved.ensures.items)
    c.tell_queue.ensures
