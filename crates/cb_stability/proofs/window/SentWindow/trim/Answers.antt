use Rattle.std.proofs.Common.{◌<◌, arith}
use Rattle.cb_stability.proofs.Windows.{row_rises, trim_nothing, trim_keeps, trim_gives}
use Rattle.cb_stability.proofs.window.SentWindow.trim.Goals as goal

pub returns-then-trimmed-self : goal.returns-then-trimmed-self
returns-then-trimmed-self c =
    let s = c.self.inside in
    rw (← c.self.view_is)
    (trim_nothing s.window s.put s.trimmed s.frames.items (row_rises s.trimmed s.put s.frames.items c.self.invariant.0.in_a_row)
    c.args.number c.min-trimmed.result c.min-trimmed.ensures c.if-trimmed-self.true)

pub invariant_of-self : goal.invariant_of-self
invariant_of-self c =
    let s = c.self.inside in
    let more : s.trimmed < c.min-trimmed.result = omega (arith, c.if-trimmed-self.false) in
    rw c.free_up_to.ensures
    (trim_keeps s.window s.put s.trimmed s.frames.items c.self.invariant.0 c.args.number c.min-trimmed.result c.min-trimmed.ensures more, c.self.invariant.1)

pub returns : goal.returns
returns c =
    let s = c.self.inside in
    let more : s.trimmed < c.min-trimmed.result = omega (arith, c.if-trimmed-self.false) in
    rw (← c.self.view_is, c.free_up_to.ensures)
    (trim_gives s.window s.put s.trimmed s.frames.items (row_rises s.trimmed s.put s.frames.items c.self.invariant.0.in_a_row)
    c.args.number c.min-trimmed.result c.min-trimmed.ensures more)
