use Rattle.std.proofs.Common.{◌≡◌, ◌-◌, ap, ◌∙◌, arith, rules, List, ◌++◌, ◌∷◌, []}
use Rattle.cb_times.specs.Order.{field}
use Rattle.cb_frames.specs.declared.frame.Change.{Change}
use Rattle.cb_diffs.proofs.Telling.{one_reported, own_unreported, same_unreported}
use Rattle.cb_reference.proofs.cast.differences.Goals as goal
use Rattle.cb_reference.proofs.cast.differences.Goals.{then-field-own+then-amount-gt0+in_ok-push, else-field-own, else-field-own-via-then-field-own+else-amount-gt0, else-field-own-via-else-field-own}

pub loop-field-preserved : goal.loop-field-preserved
loop-field-preserved c =
    let previous = c.args.previous.now in
    let now = c.args.now.now in
    elim c.if-field-own.branch [
      | then-field-own+then-amount-gt0+in_ok-push w ↦
          let amount = c.saturating_sub-amount.result in
          let is : amount ≡ field now c.loop-field.field - field previous c.loop-field.field = omega (arith, c.saturating_sub-amount.ensures, c.get.ensures.field, c.get-in-loop-field.ensures.field) in
          rw w.changes-is
          (w.in_ok-push.ensures.items ∙ ap (λ (cs : List Change). cs ++ record { field = c.loop-field.field; amount = amount } ∷ []) c.loop-field.invariant
          ∙ one_reported previous now c.args.own c.loop-field.field amount is w.if-field-own.true w.if-amount-gt0.true)
      | else-field-own w ↦ elim w.else-field-own.branch [
        | else-field-own-via-then-field-own+else-amount-gt0 w' ↦ rw w.changes-is (c.loop-field.invariant ∙ same_unreported previous now c.args.own c.loop-field.field (omega (arith, c.saturating_sub-amount.ensures, c.get.ensures.field, c.get-in-loop-field.ensures.field)))
        | else-field-own-via-else-field-own w' ↦ rw w.changes-is (c.loop-field.invariant ∙ own_unreported previous now c.args.own c.loop-field.field (search rules))
      ]
    ]
