use Rattle.std.proofs.Common.{◌∙◌, ◌++◌, ◌∷◌, [], ℕ, length, ap, arith}
use Rattle.std.proofs.lemmas.Bool.{lt-ltb, le-ltb}
use Rattle.cb_member.specs.Telling.{values_saying}
use Rattle.cb_member.proofs.Telling.{value_more, value_none}
use Rattle.cb_member.proofs.tick.values_of.Goals as goal
use Rattle.cb_member.proofs.tick.values_of.Goals.{then-amount-gt0+in_ok-push, else-amount-gt0}

pub loop-field-preserved : goal.loop-field-preserved
loop-field-preserved c =
    let time = c.args.time.now in
    elim c.if-amount-gt0.branch [
      | then-amount-gt0+in_ok-push w ↦
          value_more time (length time) c.loop-field.field c.loop-field.values.items c.if-amount-gt0.values.items (values_saying time) (omega (arith, c.loop-field-test.true, c.size-field-end.ensures.size))
          (lt-ltb 0 _ (omega (arith, c.get-amount.ensures.field, w.if-amount-gt0.true)))
          (rw w.values-is (w.in_ok-push.ensures.items ∙ ap (λ (n : ℕ). c.loop-field.values.items ++ record { field = c.loop-field.field; amount = n } ∷ []) c.get-amount.ensures.field)) c.loop-field.invariant
      | else-amount-gt0 w ↦
          value_none time (length time) c.loop-field.field c.loop-field.values.items c.if-amount-gt0.values.items (values_saying time) (omega (arith, c.loop-field-test.true, c.size-field-end.ensures.size))
          (le-ltb 0 _ (omega (arith, c.get-amount.ensures.field, w.if-amount-gt0.false))) (cc) c.loop-field.invariant
    ]
