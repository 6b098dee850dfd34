use Rattle.confer_run.proofs.Conferring.{Continues, RanBefore}
use Rattle.confer_run.proofs.running.lines_of.Given as goal

abbrev pub invariant-loop-member : goal.invariant-loop-member
invariant-loop-member g l = Continues l.reports l.member l.text.items × RanBefore l.reports l.member
