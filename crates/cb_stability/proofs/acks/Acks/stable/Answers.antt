use Rattle.cb_stability.proofs.Minima.{minimum_reached}
use Rattle.cb_stability.proofs.acks.Acks.stable.Goals as goal

pub returns-then-sender-self-clause-reached : goal.returns-then-sender-self-clause-reached
returns-then-sender-self-clause-reached c =
    let s = c.self.inside in
    rw (c.if-sender-self.true, ← c.self.view_is) (minimum_reached s.rows.items s.watched s.minimum c.self.invariant.2)

pub returns-clause-reached : goal.returns-clause-reached
returns-clause-reached c =
    let s = c.self.inside in
    let is = rw c.deref.ensures.value at c.minimum_of.ensures in
    rw (← c.self.view_is) (minimum_reached s.rows.items c.args.sender c.minimum_of.result is)
