use Rattle.std.proofs.Common.{ℕ, List, [], get_or, ap, ◌∙◌}
use Rattle.std.proofs.lemmas.List.{get_or_default}
use Rattle.cb_diffs.proofs.expander.Expander.last_time.Goals as goal

pub returns : goal.returns
returns c =
    c.index.ensures ∙ ap (λ (times : List (List ℕ)). get_or times c.args.sender c.index.result.now) c.self.view_is ∙ get_or_default c.args.self.now c.args.sender c.index.result.now [] c.requires
