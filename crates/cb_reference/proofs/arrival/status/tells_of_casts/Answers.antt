use Rattle.std.proofs.lemmas.Bool.{ne_eqb, lt-ltb}
use Rattle.std.proofs.Common.{ℕ, ◌≢◌, ◌<◌, refl, sym, ◌&&◌, ◌∙◌, not, eqb, ltb, arith, rules, tests}
use Rattle.cb_history.specs.Known.{known, value_in}
use Rattle.cb_history.specs.State.{MemberState, facts_in}
use Rattle.cb_reference.proofs.Walks.{any_more, any_holds}
use Rattle.cb_reference.proofs.arrival.status.tells_of_casts.Goals as goal
use Rattle.cb_reference.proofs.arrival.status.tells_of_casts.Goals.{else-k-me-via-then-k-me+else-known-value_in, else-k-me-via-else-k-me}

pub loop-k-preserved : goal.loop-k-preserved
loop-k-preserved c =
    let m : MemberState = c.args.past.now in
    let test = λ (k : ℕ). not (eqb k m.seat.me) && ltb (known (facts_in m) k) (value_in c.args.values.now k) in
    elim c.else-k-me.branch [
      | else-k-me-via-then-k-me+else-known-value_in w ↦
          any_more test c.size-k-end.result c.loop-k.k (omega arith) (rw (← w.known.ensures, ← w.value_in.ensures) (search (rules, tests))) ∙ c.loop-k.invariant
      | else-k-me-via-else-k-me w ↦
          any_more test c.size-k-end.result c.loop-k.k (omega arith) (search (rules, tests)) ∙ c.loop-k.invariant
    ]

pub returns-then-known-value_in : goal.returns-then-known-value_in
returns-then-known-value_in c =
    let m : MemberState = c.args.past.now in
    let test = λ (k : ℕ). not (eqb k m.seat.me) && ltb (known (facts_in m) k) (value_in c.args.values.now k) in
    let other : c.loop-k.k ≢ m.seat.me = omega (arith, c.if-k-me.true, c.me.ensures.me) in
    let more : known (facts_in m) c.loop-k.k < value_in c.args.values.now c.loop-k.k = omega (arith, c.if-known-value_in.true, c.known.ensures, c.value_in.ensures) in
    sym (any_holds test c.size-k-end.result c.loop-k.k (omega arith) (rw (ne_eqb c.loop-k.k m.seat.me other, lt-ltb (known (facts_in m) c.loop-k.k) (value_in c.args.values.now c.loop-k.k) more) refl)) ∙ c.loop-k.invariant
