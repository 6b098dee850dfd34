use Rattle.std.proofs.Common.{refl}
use Rattle.cb_stability.proofs.Windows.{keep_last-drop}
use Rattle.cb_stability.proofs.ring.free_up_to.Goals as goal

pub returns : goal.returns
returns c =
    rw (c.truncate_front.ensures, c.saturating_sub-left.ensures, c.len.ensures.len, c.count_up_to.ensures) (rw (keep_last-drop _ c.args.frames.now.items) refl)
