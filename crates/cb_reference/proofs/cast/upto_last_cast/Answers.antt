use Rattle.std.proofs.Common.{◌≡◌, ◌++◌, ◌∷◌, [], List, map, ap, ◌∙◌, sym, rules}
use Rattle.std.proofs.lemmas.List.{map-append}
use Rattle.cb_reference.specs.declared.facts.Fact.{Fact}
use Rattle.cb_history.specs.Answers.{upto_last_cast}
use Rattle.cb_history.specs.Facts.{Fact as SaidFact}
use Rattle.cb_reference.specs.Facts.{fact_of}
use Rattle.cb_reference.proofs.Casting.{own_last, other_last}
use Rattle.cb_reference.proofs.cast.upto_last_cast.Goals as goal

pub returns-then-is_own_cast : goal.returns-then-is_own_cast
returns-then-is_own_cast c =
    let before = map fact_of c.in-Some.before.now in
    let last = fact_of c.in-Some.last.now in
    let e : map fact_of c.back.front.now ≡ before ++ last ∷ [] = ap (λ (fs : List Fact). map fact_of fs) c.in-Some.ensures.cases.0 ∙ map-append fact_of c.in-Some.before.now (c.in-Some.last.now ∷ []) in
    e ∙ sym (own_last before last (search rules)) ∙ ap (λ (fs : List SaidFact). upto_last_cast fs) (sym e) ∙ c.back.invariant

pub back-preserved : goal.back-preserved
back-preserved c =
    let before = map fact_of c.in-Some.before.now in
    let last = fact_of c.in-Some.last.now in
    let e : map fact_of c.back.front.now ≡ before ++ last ∷ [] = ap (λ (fs : List Fact). map fact_of fs) c.in-Some.ensures.cases.0 ∙ map-append fact_of c.in-Some.before.now (c.in-Some.last.now ∷ []) in
    sym (other_last before last (search rules)) ∙ ap (λ (fs : List SaidFact). upto_last_cast fs) (sym e) ∙ c.back.invariant
