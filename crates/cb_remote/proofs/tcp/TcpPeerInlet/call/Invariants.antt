use Rattle.std.proofs.Common.{◌≡◌}
use Rattle.cb_remote.proofs.tcp.TcpPeerInlet.call.Given as goal

-- no failure was counted
abbrev pub invariant-loop-number : goal.invariant-loop-number
invariant-loop-number g l = l.self.failures ≡ l.fn.self.failures
