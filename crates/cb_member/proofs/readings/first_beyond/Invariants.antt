use Rattle.std.proofs.Common.{◌≡◌, ◌+◌, ◌-◌, ℕ, ◌&&◌, not, eqb, ltb, length}
use Rattle.std.specs.Prelude.{option_map}
use Rattle.std.specs.List.{range_with_len}
use Rattle.cb_times.specs.Order.{field}
use Rattle.cb_history.specs.Helping.{first_where}
use Rattle.cb_member.specs.declared.readings.Awaited.{Awaited}
use Rattle.cb_member.specs.Readings.{first_beyond}
use Rattle.cb_member.proofs.readings.first_beyond.Given as goal

-- the other members decide
abbrev pub invariant-loop-k : goal.invariant-loop-k
invariant-loop-k l =
    (l.k-end ≡ length l.now)
    × (option_map (λ (k : ℕ). let a : Awaited = record { sender = k; numbers = record { first = field l.now k + 1; last = field l.time k } } in a)
    (first_where (λ (k : ℕ). not (eqb k l.i) && ltb (field l.now k) (field l.time k)) (range_with_len l.k (l.k-end - l.k)))
    ≡ first_beyond l.now l.i l.time)
