use Rattle.std.proofs.Common.{ltb, map, rules, tests}
use Rattle.std.proofs.lemmas.Iterator.{YieldsList-from_slice}
use Rattle.std.proofs.lemmas.Iterator.Search.{any_from_yields_List}
use Rattle.cb_frames.specs.declared.frame.Change.{Change}
use Rattle.cb_history.specs.View.{count}
use Rattle.cb_reference.specs.Messages.{carried_of}
use Rattle.cb_reference.proofs.arrival.status.is_ahead.Goals as goal

pub returns : goal.returns
returns c =
    any_from_yields_List (λ (d : Change). ltb (count (map carried_of c.args.seen.now) d.field) d.amount) _ _ c.any.result c.any.ensures.ran
    (YieldsList-from_slice c.args.values.now cc) (λ x b q k. search (rules, tests))
