use Rattle.std.proofs.Common.{sym, ap, ◌∙◌}
use Rattle.cb_frames.specs.Fields.{unit_fields}
use Rattle.confer_expand.specs.Progress.{Group}
use Rattle.confer_expand.proofs.Accepting.{accepts, refuses}
use Rattle.confer_expand.proofs.expansion.Expansion.expand.Goals as goal

pub returns-in-Ok-clause-gives : goal.returns-in-Ok-clause-gives
returns-in-Ok-clause-gives c accepted kept =
    accepts c.args.self.now c.take.new.self accepted (unit_fields c.args.unit.now) (sym c.group.ensures ∙ c.if-group-self.false ∙ ap (λ (g : Group). g.number) c.self.view_is) kept c.in-Ok.ensures.ok

pub returns-in-Err-clause-gives : goal.returns-in-Err-clause-gives
returns-in-Err-clause-gives c accepted kept =
    refuses c.in-Err.fault c.args.self.now accepted (unit_fields c.args.unit.now) (sym c.group.ensures ∙ c.if-group-self.false ∙ ap (λ (g : Group). g.number) c.self.view_is) kept c.in-Err.ensures.bad_member c.in-Err.ensures.not_next c.in-Err.ensures.never_for_memory
