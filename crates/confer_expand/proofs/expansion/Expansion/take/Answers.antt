use Rattle.std.proofs.Common.{◌≡◌, ◌↔◌, Err, sym, subst}
use Rattle.cb_frames.specs.declared.frame.Unit.{Unit as Carrying}
use Rattle.cb_frames.specs.Fields.{cast_fields, burst_fields, unit_fields}
use Rattle.cb_diffs.specs.declared.expander.ExpandFault.TheVariants.{NotNext}
use Rattle.cb_diffs.specs.Expansion.{IsNotNext}
use Rattle.confer_expand.specs.Progress.{Group}
use Rattle.confer_expand.proofs.expansion.Expansion.take.Goals as goal

pub returns-in-One-clause-not_next : goal.returns-in-One-clause-not_next
returns-in-One-clause-not_next c expected found =
    subst (λ (u : Carrying). (c.expand_into.result ≡ Err (NotNext expected found)) ↔ IsNotNext c.args.self.now.kept (unit_fields u) expected found) (sym c.in-One.is)
    (subst (λ (g : Group). (c.expand_into.result ≡ Err (NotNext expected found)) ↔ IsNotNext g.kept (cast_fields c.in-One.cast) expected found) c.self.view_is
    (c.expand_into.ensures.not_next expected found))

pub returns-in-Many-clause-not_next : goal.returns-in-Many-clause-not_next
returns-in-Many-clause-not_next c expected found =
    subst (λ (u : Carrying). (c.burst_into.result ≡ Err (NotNext expected found)) ↔ IsNotNext c.args.self.now.kept (unit_fields u) expected found) (sym c.in-Many.is)
    (subst (λ (g : Group). (c.burst_into.result ≡ Err (NotNext expected found)) ↔ IsNotNext g.kept (burst_fields c.in-Many.burst) expected found) c.self.view_is
    (c.burst_into.ensures.not_next expected found))
