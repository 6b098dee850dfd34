use Rattle.std.proofs.Common.{◌≡◌, length, arith, ◌∙◌}
use Rattle.cb_stability.proofs.Minima.{count-row, minimum_of_none, minimum_skipping, minimum_meeting, minimum_of_all}
use Rattle.cb_stability.proofs.acks.minimum_of.Goals as goal
use Rattle.cb_stability.proofs.acks.minimum_of.Goals.{then-k-sender, else-k-sender}

pub loop-k-init : goal.loop-k-init
loop-k-init c = minimum_of_none c.args.rows.now c.args.sender

pub loop-k-preserved : goal.loop-k-preserved
loop-k-preserved c =
    elim c.if-k-sender.branch [
      | then-k-sender w ↦
          let here = w.get.ensures.field ∙ count-row c.args.rows.now c.loop-k.k c.args.sender c.index-rows-k.result c.loop-k-test.true c.index-rows-k.is in
          rw (w.minimum-is, w.minimum_with-minimum.ensures)
          (minimum_meeting c.args.rows.now c.args.sender c.loop-k.k c.loop-k.minimum c.loop-k.invariant w.get.result here
          (omega (arith, w.get.type_inv)) w.if-k-sender.true)
      | else-k-sender w ↦
          rw w.minimum-is
          (minimum_skipping c.args.rows.now c.args.sender c.loop-k.k c.loop-k.minimum c.loop-k.invariant w.if-k-sender.false)
    ]

pub returns : goal.returns
returns c =
    let all : c.loop-k.k ≡ length c.args.rows.now = omega arith in
    minimum_of_all c.args.rows.now c.args.sender c.loop-k.k c.loop-k.minimum (omega arith) all c.loop-k.invariant
