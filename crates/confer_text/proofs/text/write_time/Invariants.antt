use Rattle.std.proofs.Common.{◌+◌, ◌*◌, ◌<◌, ◌≤◌, length}
use Rattle.confer_text.specs.declared.text.TheConstants.{LONGEST_TIME}
use Rattle.confer_text.specs.Texts.{Precedes}
use Rattle.confer_text.proofs.Putting.{fields_from}
use Rattle.confer_text.proofs.text.write_time.Given as goal

abbrev pub invariant-loop-left : goal.invariant-loop-left
invariant-loop-left l = record {
  in_fields : l.left < length l.fields;
  text : Precedes l.fn.room LONGEST_TIME l.room l.start (fields_from l.fields l.left);
  room : LONGEST_TIME + 11 * l.left ≤ l.start + 11 * length l.fields;
}

abbrev pub decreases-loop-left : goal.decreases-loop-left
decreases-loop-left l = l.left
