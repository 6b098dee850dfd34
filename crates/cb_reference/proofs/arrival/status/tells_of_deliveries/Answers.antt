use Rattle.std.proofs.lemmas.Bool.{ne_eqb, lt-ltb}
use Rattle.std.proofs.Common.{ℕ, ◌≢◌, ◌<◌, refl, sym, ◌&&◌, ◌∙◌, not, eqb, ltb, arith, rules, tests}
use Rattle.cb_history.specs.Known.{acknowledged_of, value_in}
use Rattle.cb_history.specs.State.{MemberState, facts_in}
use Rattle.cb_reference.proofs.Walks.{any_more, any_holds}
use Rattle.cb_reference.proofs.arrival.status.tells_of_deliveries.Goals as goal
use Rattle.cb_reference.proofs.arrival.status.tells_of_deliveries.Goals.{else-i-sender-via-then-i-sender+else-acknowledged_of-value_in, else-i-sender-via-else-i-sender}

pub loop-i-preserved : goal.loop-i-preserved
loop-i-preserved c =
    let m : MemberState = c.args.past.now in
    let by = acknowledged_of m.seat (facts_in m) c.args.sender in
    let test = λ (i : ℕ). not (eqb i c.args.sender) && ltb (by i) (value_in c.args.values.now i) in
    elim c.else-i-sender.branch [
      | else-i-sender-via-then-i-sender+else-acknowledged_of-value_in w ↦
          any_more test c.size-i-end.result c.loop-i.i (omega arith) (rw (← w.acknowledged_of.ensures, ← w.value_in.ensures) (search (rules, tests))) ∙ c.loop-i.invariant
      | else-i-sender-via-else-i-sender w ↦
          any_more test c.size-i-end.result c.loop-i.i (omega arith) (search (rules, tests)) ∙ c.loop-i.invariant
    ]

pub returns-then-acknowledged_of-value_in : goal.returns-then-acknowledged_of-value_in
returns-then-acknowledged_of-value_in c =
    let m : MemberState = c.args.past.now in
    let by = acknowledged_of m.seat (facts_in m) c.args.sender in
    let test = λ (i : ℕ). not (eqb i c.args.sender) && ltb (by i) (value_in c.args.values.now i) in
    let other : c.loop-i.i ≢ c.args.sender = omega (arith, c.if-i-sender.true) in
    let more : by c.loop-i.i < value_in c.args.values.now c.loop-i.i = omega (arith, c.if-acknowledged_of-value_in.true, c.acknowledged_of.ensures, c.value_in.ensures) in
    sym (any_holds test c.size-i-end.result c.loop-i.i (omega arith) (rw (ne_eqb c.loop-i.i c.args.sender other, lt-ltb (by c.loop-i.i) (value_in c.args.values.now c.loop-i.i) more) refl)) ∙ c.loop-i.invariant
