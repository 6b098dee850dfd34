use Rattle.std.proofs.Common.{sym, ◌∙◌, subst}
use Rattle.confer_expand.specs.Steps.{Fails}
use Rattle.confer_expand.proofs.Accepting.{outcome_is}
use Rattle.confer_expand.proofs.expansion.Expansion.accept.Goals as goal

pub returns-in-Ok-clause-gives : goal.returns-in-Ok-clause-gives
returns-in-Ok-clause-gives c accepted kept =
    let given = c.in-Ok.ensures.gives accepted kept in
    (outcome_is c.args.self.now.number _ accepted c.args.line.now _ _ c.in_ok-bytes.ensures c.in_ok-unit.ensures.0 ∙ given.0, given.1)

pub returns-clause-gives : goal.returns-clause-gives
returns-clause-gives c accepted kept =
    subst (Fails c.in-Err.fault) (sym (outcome_is c.args.self.now.number _ accepted c.args.line.now _ _ c.in_ok-bytes.ensures c.in_ok-unit.ensures.0))
    (c.in-Err.ensures.gives accepted kept)
