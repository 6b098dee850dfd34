use Rattle.std.specs.FinMap as fin
use Rattle.cb_member.specs.Foreseen.{IsTakingOut}
use Rattle.cb_member.proofs.Foreseeing.{ComesOutSoFar}
use Rattle.cb_member.proofs.arrival.foreseen.come_out.Given as goal

-- some were taken out, and what was told so far came out
abbrev pub invariant-singles : goal.invariant-singles
invariant-singles l = record {
  taking : IsTakingOut l.buffer l.last;
  so_far : ComesOutSoFar l.fn.buffer l.fn.time l.buffer l.last l.messages.items;
}

abbrev pub decreases-singles : goal.decreases-singles
decreases-singles l = fin.len l.buffer.kept
