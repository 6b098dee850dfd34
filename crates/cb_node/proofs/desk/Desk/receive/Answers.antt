use Rattle.cb_node.proofs.Desks.{same_desk}
use Rattle.cb_node.proofs.Turns.{keep_still}
use Rattle.cb_node.proofs.desk.Desk.receive.Goals as goal

pub returns-in-Err-clause-keeps : goal.returns-in-Err-clause-keeps
returns-in-Err-clause-keeps g c = keep_still g.K.Keeper.has _ _ _ (same_desk c.args.self.now c.receive_noted-received.new.self c.make_room.new.list c.in-Err.ensures.same c.make_room.ensures.items)
