use Rattle.std.proofs.Common.{◌≡◌, drop}
use Rattle.cb_member.specs.Helping.{helper_among}
use Rattle.cb_member.specs.State.{OnAll}
use Rattle.cb_member.proofs.state.State.helper_among.Given as goal

-- the members that are left decide
abbrev pub invariant-loop-k : goal.invariant-loop-k
invariant-loop-k l = OnAll l.self (λ facts. helper_among l.self.seat facts l.i l.number (drop l.k-index l.members) ≡ helper_among l.self.seat facts l.i l.number l.members)
