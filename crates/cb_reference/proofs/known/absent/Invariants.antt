use Rattle.std.proofs.Common.{◌≡◌, ℕ, ◌+◌, ◌-◌, not, ◌++◌}
use Rattle.std.specs.List.{filter, range_with_len}
use Rattle.cb_history.specs.Facts.{is_there, numbers_between}
use Rattle.cb_reference.proofs.known.absent.Given as goal

-- the numbers so far, and those of the rest that are absent
abbrev pub invariant-loop-below : goal.invariant-loop-below
invariant-loop-below l =
    l.numbers.items ++ filter (λ (n : ℕ). not (is_there l.casts l.sender n)) (range_with_len (l.below + (l.low + 1)) ((l.high - l.low) - l.below))
    ≡ filter (λ (n : ℕ). not (is_there l.casts l.sender n)) (numbers_between l.low l.high)
