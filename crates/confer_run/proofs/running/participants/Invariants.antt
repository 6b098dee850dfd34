use Rattle.std.proofs.Common.{◌≡◌, length}
use Rattle.confer_run.proofs.running.participants.Given as goal

abbrev pub invariant-loop-me : goal.invariant-loop-me
invariant-loop-me l = length l.talkers.items ≡ l.me
