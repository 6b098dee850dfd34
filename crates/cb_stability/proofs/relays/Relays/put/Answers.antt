use Rattle.std.proofs.Common.{refl}
use Rattle.cb_stability.proofs.Placing.{in_order_with_place, put_keeps, full_is}
use Rattle.cb_stability.proofs.relays.Relays.put.Goals as goal

pub place-requires-clause-in_order : goal.place-requires-clause-in_order
place-requires-clause-in_order c =
    let s = c.self.inside in
    rw (c.leave_a_place.ensures, c.self.invariant.1, full_is s.window s.frames.items c.self.invariant.0.places)
    (in_order_with_place s.window s.frames.items c.self.invariant.0)

pub invariant_of-self : goal.invariant_of-self
invariant_of-self c =
    let s = c.self.inside in
    rw (c.place.ensures, c.leave_a_place.ensures, c.self.invariant.1, full_is s.window s.frames.items c.self.invariant.0.places)
    (put_keeps s.window s.frames.items c.self.invariant.0 _, refl)
