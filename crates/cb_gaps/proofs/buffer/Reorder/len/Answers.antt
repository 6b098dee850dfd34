use Rattle.std.proofs.Common.{arith}
use Rattle.cb_gaps.proofs.Kept.{len-kept}
use Rattle.cb_gaps.proofs.buffer.Reorder.len.Goals as goal

pub returns : goal.returns
returns c =
    rw (← c.self.view_is)
    (omega (arith, c.len.ensures, c.self.inside.kept.ok.0, len-kept c.self.inside.window c.self.inside.taken c.self.inside.kept.items c.self.invariant.0.rise))
