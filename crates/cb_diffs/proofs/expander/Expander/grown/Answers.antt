use Rattle.std.proofs.Common.{◌≡◌, ℕ, List, [], get_or, ap, subst, ◌∙◌}
use Rattle.std.proofs.lemmas.List.{get_or_default}
use Rattle.cb_diffs.specs.Expansion.{IsGrown, time_of}
use Rattle.cb_diffs.proofs.expander.Expander.grown.Goals as goal

pub returns-clause-time : goal.returns-clause-time
returns-clause-time c =
    let member = c.requires.members.sender in
    let from : c.in_ok-time.time ≡ time_of c.args.self.now c.args.sender =
    c.in_ok-time.ensures.equal ∙ c.index.ensures ∙ ap (λ (times : List (List ℕ)). get_or times c.args.sender c.index.result.now) c.self.view_is ∙ get_or_default c.args.self.now c.args.sender c.index.result.now [] member in
    λ frame told. subst (λ (t : List ℕ). IsGrown t frame c.grow.new.time) from (c.grow.ensures.grown frame told)
