use Rattle.std.proofs.Common.{arith}
use Rattle.cb_diffs.specs.Expansion.{expanded_field}
use Rattle.cb_reference.proofs.Bounds.{fields_are}
use Rattle.cb_reference.proofs.events.expanded_time.Goals as goal

pub returns : goal.returns
returns c =
    fields_are (expanded_field c.args.casts.now c.args.sender c.args.number) c.args.size c.loop-k.time c.loop-k.invariant.size
    (λ j lt. c.loop-k.invariant.expanded j (omega (arith, lt)))
