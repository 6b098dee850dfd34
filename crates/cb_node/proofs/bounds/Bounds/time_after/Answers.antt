use Rattle.cb_node.proofs.Doubling.{doubled}
use Rattle.cb_node.proofs.bounds.Bounds.time_after.Goals as goal

pub returns : goal.returns
returns c = doubled _ _ _ _ _ _ _ c.args.self.now.good c.min.ensures c.pow-times.ensures c.saturating_mul.ensures c.shorter.ensures
