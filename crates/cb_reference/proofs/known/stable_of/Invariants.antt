use Rattle.std.proofs.Common.{◌≡◌, ℕ, ◌-◌, not, eqb, map}
use Rattle.std.specs.List.{filter, range_with_len}
use Rattle.cb_history.specs.State.{MemberState, facts_in}
use Rattle.cb_history.specs.Known.{acknowledged_by, stable_of}
use Rattle.cb_reference.proofs.Numbers.{least_with}
use Rattle.cb_reference.proofs.known.stable_of.Given as goal

-- the least so far, or that of the other members
abbrev pub invariant-loop-k : goal.invariant-loop-k
invariant-loop-k l =
    let m : MemberState = l.past in
    least_with l.least (map (λ (k : ℕ). acknowledged_by m.seat (facts_in m) k l.i) (filter (λ (k : ℕ). not (eqb k l.i)) (range_with_len l.k (l.k-end - l.k))))
    ≡ stable_of m.seat (facts_in m) l.i
