use Rattle.std.proofs.Common.{ltb, rules, tests}
use Rattle.std.proofs.lemmas.Iterator.{YieldsList-from_slice}
use Rattle.std.proofs.lemmas.Iterator.Search.{all_from_yields_List}
use Rattle.cb_frames.specs.declared.frame.Change.{Change}
use Rattle.cb_reference.proofs.arrival.status.are_fields.Goals as goal

pub returns : goal.returns
returns c =
    all_from_yields_List (λ (d : Change). ltb d.field c.args.size) _ _ c.all.result c.all.ensures.ran
    (YieldsList-from_slice c.args.changes.now cc) (λ x b q k. search (rules, tests))
