use Rattle.std.proofs.Common.{arith, ap, length}
use Rattle.std.proofs.lemmas.Grind.{same_number_lists}
use Rattle.cb_delay.proofs.index.Index.go_to.Goals as goal

pub returns-clause-last : goal.returns-clause-last
returns-clause-last c =
    let size = c.loop-k.invariant.shape.time_size in
    same_number_lists c.loop-k.self.last c.args.now.now size
    (λ j below. c.loop-k.invariant.same j (omega (arith, below, size, c.loop-k-test.false, ap length c.as_slice-in-loop-k.ensures.fields)))
