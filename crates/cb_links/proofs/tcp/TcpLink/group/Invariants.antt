use Rattle.std.proofs.Common.{◌≡◌, length}
use Rattle.cb_links.proofs.tcp.TcpLink.group.Given as goal

-- there is a link for each member so far
abbrev pub invariant-loop-member : goal.invariant-loop-member
invariant-loop-member g l = length l.links.items ≡ l._member
