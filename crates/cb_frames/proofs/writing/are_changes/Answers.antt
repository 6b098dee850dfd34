use Rattle.std.proofs.Common.{refl, arith, sym}
use Rattle.cb_frames.proofs.PairsWritten.{changes_checked, change_here, is_own}
use Rattle.cb_frames.proofs.writing.are_changes.Goals as goal
use Rattle.cb_frames.proofs.writing.are_changes.Goals.{then-field-least-via-then-field-least, then-field-least-via-else-field-least+then-field-gt-LAST_MEMBER, then-field-least-via-else-field-least+else-field-gt-LAST_MEMBER+then-eq, then-field-least-via-else-field-least+else-field-gt-LAST_MEMBER+else-eq+then-amount-eq0}

pub returns-then-field-least : goal.returns-then-field-least
returns-then-field-least c =
    let ds = c.args.changes.now in
    let i = c.loop-change.change-index in (
      λ t. absurd cc,
      λ a.
          let here = change_here c.args.own ds c.loop-change.least i (record { field = 0; amount = 0 }) c.loop-change.invariant.checked c.loop-change-test.true a in
          elim c.then-field-least.branch [
            | then-field-least-via-then-field-least w ↦ absurd (omega (arith, w.if-field-least, here.0))
            | then-field-least-via-else-field-least+then-field-gt-LAST_MEMBER w ↦ absurd (omega (arith, w.if-field-gt-LAST_MEMBER, here.1.0))
            | then-field-least-via-else-field-least+else-field-gt-LAST_MEMBER+then-eq w ↦ absurd (here.1.1 (is_own c.args.own _ (sym (w.if-eq.ensures))))
            | then-field-least-via-else-field-least+else-field-gt-LAST_MEMBER+else-eq+then-amount-eq0 w ↦ absurd (omega (arith, w.if-amount-eq0, here.1.2))
          ],
    )

pub returns : goal.returns
returns c = (λ t. changes_checked c.args.own c.args.changes.now c.loop-change.least c.loop-change.change-index c.loop-change.invariant.checked c.loop-change-test.false, λ a. refl)
