use Rattle.std.proofs.Common.{List, length, subst}
use Rattle.cb_history.specs.declared.answer.Outgoing.{Outgoing}
use Rattle.cb_node.specs.Turning.{CountsOn}
use Rattle.cb_node.proofs.Turns.{by_sending}
use Rattle.cb_node.proofs.node.Node.send.Goals as goal

pub returns-clause-sent : goal.returns-clause-sent
returns-clause-sent g c =
    let counted = subst (λ (frames : List Outgoing). CountsOn c.args.self.now.ends.counts.offered (length frames) c.send.new.self.counts.offered) c.post.ensures c.send.ensures in
    by_sending c.args.self.now.kept c.clear_post.new.self _ _ c.clear_post.ensures counted
