use Rattle.cb_stability.proofs.Windows.{trim_nothing, trim_gives}
use Rattle.cb_stability.proofs.HelperWindows.{kept_rise, trim_keeps}
use Rattle.cb_stability.proofs.helper_window.HelperWindow.trim.Goals as goal

pub returns-then-trimmed-self : goal.returns-then-trimmed-self
returns-then-trimmed-self c =
    let s = c.self.inside in
    rw (← c.self.view_is)
    (trim_nothing s.frames.capacity s.put s.trimmed s.frames.items (kept_rise s.frames.capacity s.put s.trimmed s.frames.items c.self.invariant)
    c.args.number c.min-trimmed.result c.min-trimmed.ensures c.if-trimmed-self.true)

pub invariant_of-self : goal.invariant_of-self
invariant_of-self c =
    let s = c.self.inside in
    rw c.free_up_to.ensures
    (trim_keeps s.frames.capacity s.put s.trimmed s.frames.items c.self.invariant c.args.number c.min-trimmed.result c.min-trimmed.ensures c.if-trimmed-self.false)

pub returns : goal.returns
returns c =
    let s = c.self.inside in
    rw (← c.self.view_is, c.free_up_to.ensures)
    (trim_gives s.frames.capacity s.put s.trimmed s.frames.items (kept_rise s.frames.capacity s.put s.trimmed s.frames.items c.self.invariant)
    c.args.number c.min-trimmed.result c.min-trimmed.ensures c.if-trimmed-self.false)
