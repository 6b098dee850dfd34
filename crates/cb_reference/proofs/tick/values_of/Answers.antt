use Rattle.std.proofs.Common.{◌∙◌, ◌++◌, ◌∷◌, [], ℕ, map, ap, arith}
use Rattle.std.proofs.lemmas.Bool.{lt-ltb, le-ltb}
use Rattle.std.proofs.lemmas.List.{length-map}
use Rattle.std.specs.List.{filter, range_with_len}
use Rattle.cb_reference.specs.Messages.{carried_of}
use Rattle.cb_history.proofs.Bounds.{count_at_most}
use Rattle.cb_reference.proofs.Ticking.{value_at, is_not_zero, value_more, value_none}
use Rattle.cb_reference.proofs.tick.values_of.Goals as goal
use Rattle.cb_reference.proofs.tick.values_of.Goals.{then-amount-gt0+in_ok-push, else-amount-gt0}

pub overflow_cast-amount : goal.overflow_cast-amount
overflow_cast-amount c = omega (arith, c.requires, c.count-amount.ensures, count_at_most (map carried_of c.args.seen.now) c.loop-field.field, length-map c.args.seen.now carried_of)

pub loop-field-preserved : goal.loop-field-preserved
loop-field-preserved c =
    let seen = map carried_of c.args.seen.now in
    let whole = filter is_not_zero (map (value_at seen) (range_with_len 0 c.args.size)) in
    elim c.if-amount-gt0.branch [
      | then-amount-gt0+in_ok-push w ↦
          value_more seen c.args.size c.loop-field.field c.loop-field.values.items c.if-amount-gt0.values.items whole (omega arith)
          (lt-ltb 0 _ (omega (arith, c.count-amount.ensures, w.if-amount-gt0.true)))
          (rw w.values-is (w.in_ok-push.ensures.items ∙ ap (λ (n : ℕ). c.loop-field.values.items ++ record { field = c.loop-field.field; amount = n } ∷ []) c.count-amount.ensures)) c.loop-field.invariant
      | else-amount-gt0 w ↦
          value_none seen c.args.size c.loop-field.field c.loop-field.values.items c.if-amount-gt0.values.items whole (omega arith)
          (le-ltb 0 _ (omega (arith, c.count-amount.ensures, w.if-amount-gt0.false))) (cc) c.loop-field.invariant
    ]
