use Rattle.std.proofs.Common.{◌≡◌, ◌&&◌, ◌∙◌, ℕ, false, not, eqb, ltb, sym, ap, refl, arith}
use Rattle.std.specs.Prelude.{option_map}
use Rattle.std.proofs.lemmas.Bool.{eq-eqb, le-ltb, ne_eqb}
use Rattle.cb_times.specs.Order.{field}
use Rattle.cb_member.proofs.Telling.{first_behind}
use Rattle.cb_member.proofs.readings.first_beyond.Goals as goal
use Rattle.cb_member.proofs.readings.first_beyond.Goals.{else-k-i-via-then-k-i+else-delivered-counted, else-k-i-via-else-k-i}

pub loop-k-preserved : goal.loop-k-preserved
loop-k-preserved c =
    let now = c.args.now.now in
    let time = c.args.time.now in
    let k = c.loop-k.k in
    let skipped : (not (eqb k c.args.i) && ltb (field now k) (field time k)) ≡ false =
    elim c.else-k-i.branch [
      | else-k-i-via-then-k-i+else-delivered-counted w ↦
          rw (ne_eqb k c.args.i w.if-k-i.true)
          (le-ltb (field now k) (field time k) (omega (arith, w.if-delivered-counted.false, c.get-delivered.ensures.field, c.get-counted.ensures.field)))
      | else-k-i-via-else-k-i w ↦ rw (eq-eqb k c.args.i w.if-k-i.false) refl
    ] in (
      c.loop-k.invariant.0,
      ap (option_map _) (sym (first_behind (λ (k : ℕ). not (eqb k c.args.i) && ltb (field now k) (field time k)) _ k c.loop-k-test.true skipped)) ∙ c.loop-k.invariant.1,
    )
