use Rattle.std.proofs.Common.{arith}
use Rattle.cb_stability.proofs.Placing.{begun_within}
use Rattle.cb_stability.proofs.relays.count_begun.Goals as goal

pub loop-count-init : goal.loop-count-init
loop-count-init c =
    rw c.len-count.ensures.len (begun_within c.args.number c.args.frames.now.items, omega arith)
