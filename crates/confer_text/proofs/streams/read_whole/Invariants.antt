use Rattle.std.proofs.Common.{◌<◌, ◌≤◌, ◌-◌, vec_len}
use Rattle.std.specs.Io.KnownBytes.{Consumes}
use Rattle.confer_text.specs.declared.streams.TheConstants.{LONGEST_INPUT}
use Rattle.confer_text.proofs.streams.read_whole.Given as goal

abbrev pub invariant-pieces : goal.invariant-pieces
invariant-pieces g l = record {
  buffer : 0 < vec_len l.buffer;
  within : vec_len l.text ≤ LONGEST_INPUT;
  read : Consumes (g.R.Read.remaining l.fn.input) (g.R.Read.remaining l.input) l.text.items;
}

abbrev pub decreases-pieces : goal.decreases-pieces
decreases-pieces g l = LONGEST_INPUT - vec_len l.text
