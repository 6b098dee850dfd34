use Rattle.std.proofs.Common.{◌<◌, vec_len}
use Rattle.confer_expand.proofs.Running.{InputSoFar}
use Rattle.confer_expand.proofs.streams.expand_lines.Given as goal

abbrev pub invariant-pieces : goal.invariant-pieces
invariant-pieces g l = record {
  buffer : 0 < vec_len l.buffer;
  so_far : InputSoFar l.group l.size (g.R.Read.remaining l.fn.input) (g.R.Read.remaining l.input) (g.W.Write.contents l.fn.output) (g.W.Write.contents l.output)
      l.left l.lines.expansion l.lines.answers l.lines.begun.items;
}

abbrev pub decreases-pieces : goal.decreases-pieces
decreases-pieces g l = l.left
