use Rattle.std.proofs.Common.{◌≡◌, ℕ, List, [], get_or, ap, subst, ◌∙◌}
use Rattle.std.proofs.lemmas.List.{get_or_default}
use Rattle.cb_diffs.specs.Expansion.{IsGrown, time_of}
use Rattle.cb_diffs.proofs.expander.Expander.look_ahead.Goals as goal

pub returns-clause-grown : goal.returns-clause-grown
returns-clause-grown c =
    let member = c.requires.members.sender in
    let from : c.copy_from.new.self ≡ time_of c.args.self.now c.args.sender =
    c.copy_from.ensures.copied ∙ c.index.ensures ∙ ap (λ (times : List (List ℕ)). get_or times c.args.sender c.index.result.now) c.self.view_is ∙ get_or_default c.args.self.now c.args.sender c.index.result.now [] member in
    λ frame told. subst (λ (t : List ℕ). IsGrown t frame c.grow.new.time) from (c.grow.ensures.grown frame told)
