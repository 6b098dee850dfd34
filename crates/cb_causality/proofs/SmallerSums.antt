-- A time that is less than another has a smaller sum of fields.
use Rattle.std.proofs.Common.{◌≡◌, ℕ, zero, suc, ◌+◌, ◌<◌, ◌≤◌, List, [], ◌∷◌, length, sum, arith}
use Rattle.std.proofs.lemmas.List.{take_all}
use Rattle.std.proofs.lemmas.List.Sums.{sum_by-cons}
use Rattle.cb_times.specs.Order.{field, AtMost}
use Rattle.cb_times.specs.declared.order.TimeOrder.TheVariants.{Before}
use Rattle.cb_causality.specs.StampedMachine.{StampedLists, StampedRun}
use Rattle.cb_causality.specs.Laws.{PastHasSmallerSum}
use Rattle.cb_causality.proofs.Stamps.{times_tell_order, times_have_size}

sum-cons : (x : ℕ) (xs : List ℕ) → sum (x ∷ xs) ≡ x + sum xs
sum-cons x xs = sum_by-cons (λ (y : ℕ). y) x xs

-- fields of which none is above another's have no greater sum
sum-at_most : (xs ys : List ℕ) → length xs ≡ length ys → AtMost (field xs) (field ys) → sum xs ≤ sum ys
sum-at_most [] ys long most = omega arith
sum-at_most (x ∷ xs) [] long most = absurd (omega arith)
sum-at_most (x ∷ xs) (y ∷ ys) long most =
    let first : x ≤ y = most 0 in
    let rest : sum xs ≤ sum ys = sum-at_most xs ys (omega arith) (λ k. most (suc k)) in
    omega (arith, sum-cons x xs, sum-cons y ys)

-- and a smaller one where some field is smaller
sum-less : (xs ys : List ℕ) (k : ℕ) → length xs ≡ length ys → AtMost (field xs) (field ys) → field xs k < field ys k → sum xs < sum ys
sum-less [] [] k long most less = absurd (omega arith)
sum-less [] (y ∷ ys) k long most less = absurd (omega arith)
sum-less (x ∷ xs) [] k long most less = absurd (omega arith)
sum-less (x ∷ xs) (y ∷ ys) zero long most less =
    let rest : sum xs ≤ sum ys = sum-at_most xs ys (omega arith) (λ k. most (suc k)) in
    omega (arith, sum-cons x xs, sum-cons y ys)
sum-less (x ∷ xs) (y ∷ ys) (suc k) long most less =
    let first : x ≤ y = most 0 in
    let rest : sum xs < sum ys = sum-less xs ys k (omega arith) (λ i. most (suc i)) less in
    omega (arith, sum-cons x xs, sum-cons y ys)

-- so it is with what happened before, whose time is less
pub past_has_smaller_sum : (size : ℕ) (lists : StampedLists) → StampedRun size lists → PastHasSmallerSum size lists
past_has_smaller_sum size lists run a b time_a time_b of_a of_b before =
    let fields_a : length time_a ≡ size = times_have_size size lists run a time_a of_a in
    let fields_b : length time_b ≡ size = times_have_size size lists run b time_b of_b in
    let (most, (k, less)) = (times_tell_order size lists run a b time_a time_b of_a of_b Before).1 before in
    rw (take_all size time_a (omega arith), take_all size time_b (omega arith)) (sum-less time_a time_b k (omega arith) most less)
