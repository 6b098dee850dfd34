use Rattle.std.proofs.Common.{◌≡◌, ℕ, ◌∙◌, not, eqb, Some, arith, rules, tests}
use Rattle.cb_history.specs.State.{MemberState, facts_in}
use Rattle.cb_history.specs.Known.{acknowledged_by}
use Rattle.cb_reference.specs.Facts.{lesser_of}
use Rattle.cb_reference.proofs.Numbers.{least_more, least_same}
use Rattle.cb_reference.proofs.known.stable_of.Goals as goal
use Rattle.cb_reference.proofs.known.stable_of.Goals.{then-k-i, else-k-i}

pub loop-k-preserved : goal.loop-k-preserved
loop-k-preserved c =
    let m : MemberState = c.args.past.now in
    let f = λ (k : ℕ). acknowledged_by m.seat (facts_in m) k c.args.i in
    let test = λ (k : ℕ). not (eqb k c.args.i) in
    elim c.if-k-i.branch [
      | then-k-i w ↦
          let is : c.if-k-i.least ≡ Some (lesser_of c.loop-k.least (f c.loop-k.k)) = rw (w.least-is, w.lesser.ensures, w.acknowledged_by.ensures) (search rules) in
          rw is (least_more f test c.loop-k.least c.size-k-end.result c.loop-k.k (omega arith) (search (rules, tests)) ∙ c.loop-k.invariant)
      | else-k-i w ↦
          rw w.least-is (least_same f test c.loop-k.least c.size-k-end.result c.loop-k.k (omega arith) (search (rules, tests)) ∙ c.loop-k.invariant)
    ]
