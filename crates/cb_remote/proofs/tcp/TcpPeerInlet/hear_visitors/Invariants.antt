use Rattle.std.proofs.Common.{◌≡◌}
use Rattle.cb_remote.proofs.tcp.TcpPeerInlet.hear_visitors.Given as goal

-- no failure was counted
abbrev pub invariant-loop-visitor : goal.invariant-loop-visitor
invariant-loop-visitor g l = l.self.failures ≡ l.fn.self.failures
