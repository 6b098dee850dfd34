use Rattle.std.proofs.Common.{◌≡◌, length, arith, refl, inl, inr}
use Rattle.std.proofs.lemmas.Bool.{cases_lt}
use Rattle.cb_gaps.proofs.Kept.{front_kept}
use Rattle.cb_gaps.proofs.Passing.{none_kept}
use Rattle.cb_gaps.proofs.buffer.Reorder.first_kept.Goals as goal

pub returns-in_err-front-clause-none : goal.returns-in_err-front-clause-none
returns-in_err-front-clause-none c =
    let empty : length c.self.inside.kept.items ≡ 0 =
    elim (cases_lt 0 (length c.self.inside.kept.items)) as (λ _. length c.self.inside.kept.items ≡ 0) [
      | inl some ↦ let wrong = c.in_err-front.ensures.variant.1 (omega (arith, some, c.self.inside.kept.ok.0)) in cc
      | inr none ↦ omega (arith, none)
    ] in
    rw (c.from_residual.ensures, ← c.self.view_is)
    (none_kept c.self.inside.window c.self.inside.taken c.self.inside.kept.items empty)

pub returns-clause-first : goal.returns-clause-first
returns-clause-first c =
    rw (← c.self.view_is, c.first.ensures)
    (front_kept c.self.inside.window c.self.inside.taken c.self.inside.kept.items c.in_ok-front.field-0.now c.self.invariant.0
    (omega (arith, c.in_ok-front.ensures.variant.0 refl, c.self.inside.kept.ok.0)) c.in_ok-front.ensures.lookup)
