use Rattle.std.proofs.Common.{◌≡◌, length, sym, ◌∙◌, arith}
use Rattle.std.specs.VecDeque.{deque_len}
use Rattle.std.proofs.lemmas.Bool.{eq-eqb, eqb-true}
use Rattle.cb_gaps.proofs.Passing.{none_kept, some_kept}
use Rattle.cb_gaps.proofs.buffer.Reorder.is_in_order.Goals as goal

pub returns-then-is_empty : goal.returns-then-is_empty
returns-then-is_empty c =
    let none : deque_len c.self.inside.kept ≡ 0 = eqb-true (deque_len c.self.inside.kept) 0 (sym c.is_empty.ensures ∙ c.if-is_empty.true) in
    let empty : length c.self.inside.kept.items ≡ 0 = omega (arith, none, c.self.inside.kept.ok.0) in
    rw (← c.self.view_is) (
      λ yes. record { none_kept = none_kept c.self.inside.window c.self.inside.taken c.self.inside.kept.items empty; follows = c.follows.ensures.0 yes },
      λ in_order. c.follows.ensures.1 in_order.follows,
    )

pub returns-else-is_empty : goal.returns-else-is_empty
returns-else-is_empty c =
    rw (← c.self.view_is) (
      λ yes. absurd (cc),
      λ in_order.
          let empty = some_kept c.self.inside.window c.self.inside.taken c.self.inside.kept.items c.self.invariant.0 in_order.none_kept in
          let none : deque_len c.self.inside.kept ≡ 0 = omega (arith, empty, c.self.inside.kept.ok.0) in
          c.is_empty.ensures ∙ eq-eqb (deque_len c.self.inside.kept) 0 none,
    )
