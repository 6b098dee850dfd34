use Rattle.std.proofs.Common.{ℕ, ltb, rules, tests}
use Rattle.std.proofs.lemmas.Iterator.{YieldsList-from_slice}
use Rattle.std.proofs.lemmas.Iterator.Search.{all_from_yields_List}
use Rattle.cb_member.proofs.helping.are_members.Goals as goal

pub returns : goal.returns
returns c =
    all_from_yields_List (λ (k : ℕ). ltb k c.args.size) _ _ c.all.result c.all.ensures.ran
    (YieldsList-from_slice c.args.members.now cc) (λ x b q k. search (rules, tests))
