use Rattle.std.proofs.Common.{◌&&◌, leb, rules, tests}
use Rattle.std.proofs.lemmas.Iterator.{YieldsList-from_slice}
use Rattle.std.proofs.lemmas.Iterator.Search.{any_from_yields_List}
use Rattle.cb_frames.specs.declared.frame.Range.{Range}
use Rattle.cb_reference.proofs.asked.is_in_some.Goals as goal

pub returns : goal.returns
returns c =
    any_from_yields_List (λ (r : Range). leb r.first c.args.number && leb c.args.number r.last) _ _ c.any.result c.any.ensures.ran (YieldsList-from_slice c.args.ranges.now cc) (λ x b q k. search (rules, tests))
