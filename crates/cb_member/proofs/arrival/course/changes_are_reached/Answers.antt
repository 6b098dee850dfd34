use Rattle.std.proofs.Common.{subst, refl, ◌∙◌}
use Rattle.std.specs.Prelude.{All}
use Rattle.std.proofs.lemmas.List.{take_all}
use Rattle.std.proofs.lemmas.List.Elements.{All-more}
use Rattle.cb_frames.specs.declared.frame.Change.{Change}
use Rattle.cb_member.proofs.Ready.{IsReached}
use Rattle.cb_member.proofs.arrival.course.changes_are_reached.Goals as goal
use Rattle.cb_member.proofs.arrival.course.changes_are_reached.Goals.{else-stamps-k-via-then-stamps-k+else-change-cast, else-stamps-k-via-else-stamps-k}

pub loop-change-preserved : goal.loop-change-preserved
loop-change-preserved c =
    let items = c.deref-change-items.result.now in
    let none : Change = record { field = 0; amount = 0 } in
    record {
      items = c.loop-change.invariant.items;
      reached = All-more (IsReached c.args.cast.now.sender c.args.stamps.now c.args.counts.now) items c.loop-change.change-index none c.loop-change-test.true c.loop-change.invariant.reached
          (λ other. elim c.else-stamps-k.branch [
            | else-stamps-k-via-then-stamps-k+else-change-cast w ↦ absurd (other w.if-change-cast.false)
            | else-stamps-k-via-else-stamps-k w ↦ w.if-stamps-k.false
          ]);
    }

pub returns : goal.returns
returns c = (
  λ _. subst (All (IsReached c.args.cast.now.sender c.args.stamps.now c.args.counts.now))
      (take_all c.loop-change.change-index c.deref-change-items.result.now c.loop-change-test.false ∙ c.loop-change.invariant.items) c.loop-change.invariant.reached,
  λ _. refl,
)
