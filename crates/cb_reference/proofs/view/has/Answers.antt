use Rattle.std.proofs.Common.{eqb, ◌&&◌, ◌∙◌, rules, tests}
use Rattle.std.proofs.lemmas.Iterator.{YieldsList-from_slice}
use Rattle.std.proofs.lemmas.Iterator.Search.{any_from_yields_List}
use Rattle.cb_reference.specs.declared.casts.Message.{Message}
use Rattle.cb_reference.proofs.Messages.{named_carried}
use Rattle.cb_reference.proofs.view.has.Goals as goal

pub returns : goal.returns
returns c =
    any_from_yields_List (λ (n : Message). eqb n.sender c.args.sender && eqb n.number c.args.number) _ _ c.any.result c.any.ensures.ran
    (YieldsList-from_slice c.args.messages.now cc) (λ x b q k. search (rules, tests))
    ∙ named_carried c.args.sender c.args.number c.args.messages.now
