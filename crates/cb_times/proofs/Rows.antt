-- How a few times of three members compare.
use Rattle.std.proofs.Common.{ℕ, [], ◌∷◌, List, arith, zero, suc, refl, lit<, lit≤}
use Rattle.cb_times.specs.declared.order.TimeOrder.TheVariants.{Before, After, Same, Concurrent}
use Rattle.cb_times.specs.Order.{field, AtMost, Compares}

-- what member 0 sends first, what member 1 sends first, and what member 1 sends once it has delivered the former
abbrev of_0 : List ℕ
of_0 = 1 ∷ 0 ∷ 0 ∷ []

abbrev of_1 : List ℕ
of_1 = 0 ∷ 1 ∷ 0 ∷ []

abbrev answer : List ℕ
answer = 1 ∷ 1 ∷ 0 ∷ []

neither_knew_the_other : Compares (field of_0) (field of_1) Concurrent
neither_knew_the_other = ((λ below. omega (arith, below 0)), (λ above. omega (arith, above 1)))

below_the_answer : AtMost (field of_0) (field answer)
below_the_answer zero = lit≤ tt
below_the_answer (suc zero) = lit≤ tt
below_the_answer (suc (suc k)) = omega arith

before_its_answer : Compares (field of_0) (field answer) Before
before_its_answer = (below_the_answer, (1, lit< tt))

answer_comes_after : Compares (field answer) (field of_0) After
answer_comes_after = before_its_answer

same_as_its_copy : Compares (field of_0) (field of_0) Same
same_as_its_copy k = refl
