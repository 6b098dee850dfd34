use Rattle.cb_gaps.proofs.Passing.{passed_keeps}
use Rattle.cb_gaps.proofs.buffer.Reorder.take_in_order.Goals as goal

pub invariant_of-self : goal.invariant_of-self
invariant_of-self c =
    let requires = rw (← c.self.view_is) at c.requires in (
      passed_keeps c.self.inside.window c.self.inside.taken c.args.last c.self.inside.kept.items c.self.invariant.0 requires.none,
      c.self.invariant.1,
    )
