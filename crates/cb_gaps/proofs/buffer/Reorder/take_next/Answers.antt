use Rattle.std.proofs.Common.{◌≡◌, ◌+◌, ◌^◌, ◌≤◌, length, arith, refl, inl, inr, sym, ◌∙◌}
use Rattle.std.proofs.lemmas.Bool.{cases_lt}
use Rattle.cb_gaps.proofs.Kept.{none_beyond, next-empty, next-later, front_is_numbered, pop_keeps, pop_next, pop_taken}
use Rattle.cb_gaps.proofs.buffer.Reorder.take_next.Goals as goal

pub returns-in_err-next-clause-none : goal.returns-in_err-next-clause-none
returns-in_err-next-clause-none c =
    let beyond : 2 ^ 32 ≤ c.self.inside.taken + 1 = omega (arith, c.in_err-next.ensures) in
    rw (c.from_residual.ensures, ← c.self.view_is)
    (none_beyond c.self.inside.window c.self.inside.taken c.self.inside.kept.items c.self.invariant.0 (c.self.inside.taken + 1) beyond)

pub returns-in_err-front-clause-none : goal.returns-in_err-front-clause-none
returns-in_err-front-clause-none c =
    let empty : length c.self.inside.kept.items ≡ 0 =
    elim (cases_lt 0 (length c.self.inside.kept.items)) as (λ _. length c.self.inside.kept.items ≡ 0) [
      | inl some ↦ let wrong = c.in_err-front.ensures.variant.1 (omega (arith, some, c.self.inside.kept.ok.0)) in cc
      | inr none ↦ omega (arith, none)
    ] in
    rw (c.from_residual-in_err-front.ensures, ← c.self.view_is)
    (next-empty c.self.inside.window c.self.inside.taken c.self.inside.kept.items c.self.invariant.0 empty)

pub returns-then-first-next-clause-none : goal.returns-then-first-next-clause-none
returns-then-first-next-clause-none c =
    rw (← c.self.view_is)
    (next-later c.self.inside.window c.self.inside.taken c.self.inside.kept.items c.in_ok-front.front.now c.self.invariant.0
    (omega (arith, c.in_ok-front.ensures.variant.0 refl, c.self.inside.kept.ok.0)) c.in_ok-front.ensures.lookup
    (λ e. c.if-first-next.true (c.first.ensures ∙ e ∙ sym c.in_ok-next.ensures.1)))

pub last-self-inside-requires : goal.last-self-inside-requires
last-self-inside-requires c =
    front_is_numbered c.self.inside.window c.self.inside.taken c.self.inside.kept.items c.in_ok-front.front.now c.self.invariant.0
    (omega (arith, c.in_ok-front.ensures.variant.0 refl, c.self.inside.kept.ok.0)) c.in_ok-front.ensures.lookup

pub invariant_of-self : goal.invariant_of-self
invariant_of-self c =
    rw c.last-self-inside.ensures (
      pop_keeps c.self.inside.window c.self.inside.taken c.self.inside.kept.items c.pop_front.new.self.items c.in_ok-front.front.now
          c.self.invariant.0 c.in_ok-front.ensures.lookup (sym c.first.ensures ∙ c.if-first-next.false ∙ c.in_ok-next.ensures.1)
          c.pop_front.result (c.pop_front.ensures.variant.1 (c.in_ok-front.ensures.variant.0 refl)) c.pop_front.ensures.items,
      omega (arith, c.pop_front.ensures.capacity, c.self.invariant.1),
    )

pub returns-clause-next : goal.returns-clause-next
returns-clause-next c =
    rw (← c.self.view_is)
    (pop_next c.self.inside.window c.self.inside.taken c.self.inside.kept.items c.pop_front.new.self.items c.in_ok-front.front.now
    c.self.invariant.0 c.in_ok-front.ensures.lookup (sym c.first.ensures ∙ c.if-first-next.false ∙ c.in_ok-next.ensures.1)
    c.pop_front.result c.pop_front.ensures.items)

pub returns-clause-taken : goal.returns-clause-taken
returns-clause-taken c =
    rw (← c.self.view_is, c.last-self-inside.ensures)
    (pop_taken c.self.inside.window c.self.inside.taken c.self.inside.kept.items c.pop_front.new.self.items c.in_ok-front.front.now
    c.self.invariant.0 c.in_ok-front.ensures.lookup (sym c.first.ensures ∙ c.if-first-next.false ∙ c.in_ok-next.ensures.1)
    c.pop_front.result c.pop_front.ensures.items)
