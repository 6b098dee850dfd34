use Rattle.std.proofs.Common.{◌≡◌, ◌+◌, ◌-◌, ◌++◌, ◌∷◌, [], List, ℕ, length, take, drop, ap, sym, subst, ◌∙◌}
use Rattle.std.proofs.lemmas.List.{take_rest, drop-drop}
use Rattle.confer_expand.specs.Progress.{Says}
use Rattle.confer_expand.proofs.Saying.{taken_more, taken_all, on_ok, on_ok_same}
use Rattle.confer_expand.proofs.lines.Lines.take.Goals as goal

pub loop-end-preserved : goal.loop-end-preserved
loop-end-preserved c =
    let rest = c.loop-end.rest.now in
    let i = c.in-Some.end in
    let after : take (length c.split_at.result.1.now - 1) (drop 1 c.split_at.result.1.now) ≡ drop (i + 1) rest =
    take_rest c.split_at.result.1.now 1 ∙ ap (drop 1) c.split_at.ensures.back ∙ drop-drop 1 i rest in
    let says = subst (λ (t : List ℕ). Says ((c.loop-end.self.begun.items ++ t) ∷ []) c.loop-end.self.expansion c.answer.new.self.expansion c.loop-end.self.answers c.answer.new.self.answers)
    c.split_at.ensures.front c.in_ok-answer.ensures.ok in
    rw (after, c.in_ok-answer.ensures.begun) (taken_more _ _ _ _ _ _ _ _ _ _ i c.loop-end.invariant c.in-Some.ensures says)

pub returns-clause-ok : goal.returns-clause-ok
returns-clause-ok c =
    on_ok c.extend_from_slice.result (taken_all _ _ _ _ _ _ _ _ c.loop-end.invariant c.in_default.ensures).0

pub returns-clause-begun : goal.returns-clause-begun
returns-clause-begun c =
    on_ok_same c.extend_from_slice.result _ c.loop-end.self.begun.items c.loop-end.rest.now _ c.extend_from_slice.ensures.items (sym (taken_all _ _ _ _ _ _ _ _ c.loop-end.invariant c.in_default.ensures).1)
