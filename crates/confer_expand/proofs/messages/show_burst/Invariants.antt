use Rattle.std.proofs.Common.{vec_len, vec_capacity}
use Rattle.confer_expand.proofs.Showing.{ShownSoFar}
use Rattle.confer_expand.proofs.messages.show_burst.Given as goal

abbrev pub invariant-loop-place : goal.invariant-loop-place
invariant-loop-place l =
    ShownSoFar l.burst l.place l.fn.expansion l.expansion l.fn.text.items l.text.items (vec_len l.text) (vec_capacity l.text)
