use Rattle.std.proofs.Common.{◌≤◌, ◌+◌, [], List, ℕ, length}
use Rattle.cb_trace.specs.Reading.{progress_of, AtMember, KeepsBounds, ReadTo}
use Rattle.cb_trace.proofs.reading.members_of.Given as goal

abbrev pub invariant-lines : goal.invariant-lines
invariant-lines l = record {
  bounds : KeepsBounds (progress_of l.reading);
  read : (whole : List ℕ) → ReadTo whole l.text (AtMember l.fn.group []) 2 → ReadTo whole l.rest (progress_of l.reading) l.line;
  few : l.line + length l.rest ≤ length l.text + 2;
}

abbrev pub decreases-lines : goal.decreases-lines
decreases-lines l = length l.rest
