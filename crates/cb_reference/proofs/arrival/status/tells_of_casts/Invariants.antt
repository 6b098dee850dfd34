use Rattle.std.proofs.Common.{◌≡◌, ℕ, ◌&&◌, ◌-◌, not, eqb, ltb}
use Rattle.std.specs.List.{list_any, range_with_len}
use Rattle.cb_history.specs.Known.{known, value_in}
use Rattle.cb_history.specs.State.{MemberState, facts_in}
use Rattle.cb_reference.proofs.arrival.status.tells_of_casts.Given as goal

-- what is left to look at decides
abbrev pub invariant-loop-k : goal.invariant-loop-k
invariant-loop-k l =
    let m : MemberState = l.past in
    let test = λ (k : ℕ). not (eqb k m.seat.me) && ltb (known (facts_in m) k) (value_in l.values k) in
    list_any test (range_with_len l.k (l.k-end - l.k)) ≡ list_any test (range_with_len 0 m.seat.group.size)
