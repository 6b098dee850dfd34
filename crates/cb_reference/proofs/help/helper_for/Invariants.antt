use Rattle.std.proofs.Common.{◌≡◌, ℕ, ◌-◌, ◌&&◌, not, eqb, leb}
use Rattle.std.specs.List.{range_with_len}
use Rattle.cb_history.specs.Helping.{first_where, helper_for}
use Rattle.cb_history.specs.Known.{acknowledged_of}
use Rattle.cb_history.specs.State.{MemberState, facts_in}
use Rattle.cb_reference.proofs.help.helper_for.Given as goal

-- the other members decide
abbrev pub invariant-loop-k : goal.invariant-loop-k
invariant-loop-k l =
    let m : MemberState = l.past in
    first_where (λ (k : ℕ). not (eqb k l.i) && not (eqb k m.seat.me) && leb l.n (acknowledged_of m.seat (facts_in m) k l.i)) (range_with_len l.k (l.k-end - l.k))
    ≡ helper_for m.seat (facts_in m) l.i l.n
