use Rattle.std.proofs.Common.{◌≡◌}
use Rattle.cb_remote.proofs.tcp.TcpPeerInlet.accept.Given as goal

-- no failure was counted
abbrev pub invariant-loop-call : goal.invariant-loop-call
invariant-loop-call g l = l.self.failures ≡ l.fn.self.failures
