use Rattle.std.proofs.Common.{◌≡◌, ◌-◌, ◌++◌}
use Rattle.std.specs.List.{range_with_len}
use Rattle.cb_history.specs.Answers.{requests}
use Rattle.cb_member.specs.State.{OnAll}
use Rattle.cb_member.proofs.Telling.{requests_to}
use Rattle.cb_member.proofs.state.State.requests.Given as goal

-- the requests so far, and those to the other members
abbrev pub invariant-loop-i : goal.invariant-loop-i
invariant-loop-i l = OnAll l.self (λ facts. l.requests.items ++ requests_to l.self.seat facts (range_with_len l.i (l.self.seat.group.size - l.i)) ≡ requests l.self.seat facts)
