use Rattle.std.proofs.Common.{◌≡◌, length}
use Rattle.tests_base.proofs.index.time_at.Given as goal

abbrev pub invariant-loop-k : goal.invariant-loop-k
invariant-loop-k g l = length l.time ≡ length l.fields
