use Rattle.std.proofs.Common.{◌≡◌}
use Rattle.confer_node.proofs.meeting.Met.new.Given as goal

abbrev pub invariant-loop-entry : goal.invariant-loop-entry
invariant-loop-entry l = l.met.seat ≡ l.member.seat
