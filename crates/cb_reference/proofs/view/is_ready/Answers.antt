use Rattle.std.proofs.Common.{map, refl, rules, tests, arith}
use Rattle.std.specs.List.{list_all, range_with_len}
use Rattle.std.proofs.lemmas.Iterator.{YieldsList-from_range}
use Rattle.std.proofs.lemmas.Iterator.Search.{all_from_yields_List}
use Rattle.cb_history.specs.View.{is_among, is_in_time}
use Rattle.cb_reference.specs.Messages.{carried_of}
use Rattle.cb_reference.proofs.Walks.{unless_and}
use Rattle.cb_reference.proofs.view.is_ready.Goals as goal

pub returns-then-not-is_among : goal.returns-then-not-is_among
returns-then-not-is_among c =
    let m = carried_of c.args.message in
    let test = is_in_time c.args.casts.now (map carried_of c.args.seen.now) m in
    unless_and c.is_among.result (is_among (map carried_of c.args.seen.now) m) (list_all test (range_with_len 0 c.args.size)) c.all.result c.is_among.ensures (search rules)
    (all_from_yields_List test _ _ c.all.result c.all.ensures.ran (YieldsList-from_range 0 c.args.size c.args.size refl (omega arith)) (λ x b q k. search (rules, tests)))
