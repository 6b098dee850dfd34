use Rattle.std.proofs.Common.{List, ℕ, ◌++◌, ap, ◌∙◌}
use Rattle.cb_frames.specs.Fields.{unit_fields}
use Rattle.confer_expand.specs.Progress.{Said}
use Rattle.confer_expand.specs.Texts.{cast_lines}
use Rattle.confer_expand.proofs.Saying.{says_accepted}
use Rattle.confer_expand.proofs.answers.Answers.answer.Goals as goal

pub returns-in-Ok-clause-ok : goal.returns-in-Ok-clause-ok
returns-in-Ok-clause-ok c =
    let lines = cast_lines (unit_fields c.in-Ok.unit) c.accept.new.self.time in
    let text = c.show.ensures.lines ∙ ap (λ (t : List ℕ). t ++ lines) (c.reserve.ensures.items ∙ ap (λ (s : Said). s.text) c.self.view_is) in
    says_accepted c.args.line.now c.in-Ok.unit c.args.expansion.now c.accept.new.self c.show.new.expansion c.args.self.now _
    c.in-Ok.ensures.gives c.in-Ok.ensures.same c.show.ensures.same text (ap (λ (s : Said). s.refused) c.self.view_is)
