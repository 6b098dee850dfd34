use Rattle.std.proofs.Common.{◌≡◌, ◌-◌, ◌++◌}
use Rattle.std.specs.List.{range_with_len}
use Rattle.cb_history.specs.State.{MemberState, facts_in}
use Rattle.cb_history.specs.Answers.{requests}
use Rattle.cb_reference.proofs.Ticking.{requests_to}
use Rattle.cb_reference.proofs.tick.requests.Given as goal

-- the requests so far, and those to the other members
abbrev pub invariant-loop-i : goal.invariant-loop-i
invariant-loop-i l =
    let m : MemberState = l.past in
    l.requests.items ++ requests_to m.seat (facts_in m) (range_with_len l.i (l.i-end - l.i)) ≡ requests m.seat (facts_in m)
