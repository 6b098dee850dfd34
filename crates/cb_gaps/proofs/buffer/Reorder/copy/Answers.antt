use Rattle.cb_gaps.proofs.Copies.{kept_alike, buffer_alike}
use Rattle.cb_gaps.proofs.buffer.Reorder.copy.Goals as goal

pub invariant_of-result : goal.invariant_of-result
invariant_of-result c =
    let s = c.self.inside in
    let kept = kept_alike s.kept.items c.in_ok-kept.kept.items c.in_ok-kept.ensures.units s.window s.taken c.self.invariant.0 in
    (kept, c.in_ok-kept.ensures.places)

pub returns : goal.returns
returns c =
    let s = c.self.inside in
    rw (← c.self.view_is) (buffer_alike s.kept.items c.in_ok-kept.kept.items c.in_ok-kept.ensures.units s.window s.taken)
