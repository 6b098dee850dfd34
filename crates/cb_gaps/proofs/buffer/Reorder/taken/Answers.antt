use Rattle.cb_gaps.proofs.Kept.{is_reorder_buffer}
use Rattle.cb_gaps.proofs.buffer.Reorder.taken.Goals as goal

pub returns-clause-buffer : goal.returns-clause-buffer
returns-clause-buffer c =
    rw (← c.self.view_is) (is_reorder_buffer c.self.inside.window c.self.inside.taken c.self.inside.kept.items c.self.invariant.0)
