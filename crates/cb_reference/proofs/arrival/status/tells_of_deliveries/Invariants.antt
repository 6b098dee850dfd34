use Rattle.std.proofs.Common.{◌≡◌, ℕ, ◌&&◌, ◌-◌, not, eqb, ltb}
use Rattle.std.specs.List.{list_any, range_with_len}
use Rattle.cb_history.specs.Known.{acknowledged_of, value_in}
use Rattle.cb_history.specs.State.{MemberState, facts_in}
use Rattle.cb_reference.proofs.arrival.status.tells_of_deliveries.Given as goal

-- what is left to look at decides
abbrev pub invariant-loop-i : goal.invariant-loop-i
invariant-loop-i l =
    let m : MemberState = l.past in
    let test = λ (i : ℕ). not (eqb i l.sender) && ltb (acknowledged_of m.seat (facts_in m) l.sender i) (value_in l.values i) in
    list_any test (range_with_len l.i (l.i-end - l.i)) ≡ list_any test (range_with_len 0 m.seat.group.size)
