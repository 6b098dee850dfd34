use Rattle.std.proofs.Common.{◌≡◌}
use Rattle.cb_diffs.proofs.Telling.{reported_of}
use Rattle.cb_diffs.proofs.differences.difference.Given as goal

abbrev pub invariant-loop-field : goal.invariant-loop-field
invariant-loop-field l = l.changes.items ≡ reported_of l.previous l.now l.own l.field
