use Rattle.std.proofs.Common.{map, arith}
use Rattle.cb_history.specs.View.{count}
use Rattle.cb_reference.specs.Messages.{carried_of}
use Rattle.cb_reference.proofs.Bounds.{fields_are}
use Rattle.cb_reference.proofs.view.counts.Goals as goal

pub overflow_cast-count : goal.overflow_cast-count
overflow_cast-count c = omega (arith, c.count.ensures, c.requires.few c.loop-k.k)

pub returns : goal.returns
returns c = fields_are (count (map carried_of c.args.seen.now)) c.args.size c.loop-k.time c.loop-k.invariant.size (λ j lt. c.loop-k.invariant.counted j (omega (arith, lt)))
