use Rattle.std.proofs.Common.{arith}
use Rattle.cb_stability.proofs.Minima.{zero_minimum}
use Rattle.cb_stability.proofs.Unknown.{rows_made, unknown_made}
use Rattle.cb_stability.proofs.acks.Acks.new.Goals as goal

pub invariant_of-result : goal.invariant_of-result
invariant_of-result c =
    let rows = c.loop.rows.items in
    let unknown = unknown_made c.args.size rows (omega arith) c.loop.invariant.zero in (
      rows_made c.args.size rows (omega arith) c.requires c.loop.invariant.zero,
      omega (arith, unknown.of_size, c.requires.two_or_more),
      zero_minimum c.args.size rows unknown c.requires.two_or_more 0 (omega (arith, unknown.of_size, c.requires.two_or_more)),
    )

pub returns : goal.returns
returns c = unknown_made c.args.size c.loop.rows.items (omega arith) c.loop.invariant.zero
