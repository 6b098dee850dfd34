use Rattle.cb_journal.proofs.Parts.{WroteSoFar}
use Rattle.cb_journal.proofs.writing.write_whole.Given as goal

abbrev pub invariant-loop : goal.invariant-loop
invariant-loop g l = WroteSoFar (g.W.Write.contents l.fn.output) (g.W.Write.contents l.output) l.bytes l.rest
