use Rattle.cb_stability.proofs.Placing.{trim_keeps}
use Rattle.cb_stability.proofs.relays.Relays.trim.Goals as goal

pub invariant_of-self : goal.invariant_of-self
invariant_of-self c = rw c.free_up_to.ensures (trim_keeps c.self.inside.window c.self.inside.frames.items c.self.invariant.0 _, c.self.invariant.1)
