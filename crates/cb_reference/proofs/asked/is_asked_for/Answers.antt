use Rattle.std.proofs.Common.{Bool, List, ap, ◌&&◌, leb, ◌∙◌, rules, tests}
use Rattle.std.specs.List.{list_any}
use Rattle.std.proofs.lemmas.Iterator.{YieldsList-from_slice}
use Rattle.std.proofs.lemmas.Iterator.Search.{any_from_yields_List}
use Rattle.cb_frames.specs.declared.frame.Range.{Range}
use Rattle.cb_frames.specs.Fields.{Carried}
use Rattle.cb_reference.specs.declared.casts.Message.{Message}
use Rattle.cb_reference.specs.Messages.{carried_of}
use Rattle.cb_reference.proofs.Messages.{any_carried}
use Rattle.cb_reference.proofs.asked.is_asked_for.Goals as goal

pub returns : goal.returns
returns c = λ cast are.
    let test : Carried → Bool = λ (m : Carried). list_any (λ (r : Range). leb r.first m.number && leb m.number r.last) c.args.ranges.now in
    any_from_yields_List (λ (m : Message). test (carried_of m)) _ _ c.any.result c.any.ensures.ran
    (YieldsList-from_slice c.args.messages.now cc) (λ x b q k. search (rules, tests))
    ∙ any_carried test c.args.messages.now
    ∙ ap (λ (ms : List Carried). list_any test ms) are
