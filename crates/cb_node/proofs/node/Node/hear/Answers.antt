use Rattle.cb_node.specs.Course.{Stays}
use Rattle.cb_node.proofs.Turns.{by_calls}
use Rattle.cb_node.proofs.node.Node.hear.Goals as goal

pub returns-in-Nothing-clause-gone : goal.returns-in-Nothing-clause-gone
returns-in-Nothing-clause-gone g c = by_calls c.args.self.now.kept c.args.self.now.kept _ _ (Stays _) c.receive.ensures
