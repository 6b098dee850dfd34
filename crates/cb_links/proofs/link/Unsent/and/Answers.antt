use Rattle.std.proofs.Common.{Result, IfErr, subst}
use Rattle.cb_links.specs.Counts.{LinkCounts}
use Rattle.cb_links.specs.declared.link.LinkFault.{LinkFault}
use Rattle.cb_links.proofs.link.Unsent.and.Goals as goal

pub returns-in-Err-clause-met : goal.returns-in-Err-clause-met
returns-in-Err-clause-met c = λ old new rises counted. c.and_fault.ensures.met old new (subst (λ (r : Result Unit LinkFault). IfErr r (λ fault. LinkCounts fault old new)) c.in-Err.is counted) rises
