use Rattle.std.proofs.Common.{◌≡◌, length}
use Rattle.confer_run.proofs.running.paces.Given as goal

abbrev pub invariant-loop-member : goal.invariant-loop-member
invariant-loop-member l = length l.paces.items ≡ l._member
