use Rattle.std.proofs.Common.{length}
use Rattle.cb_gaps.specs.Buffer.{Buffer}
use Rattle.cb_history.specs.BufferLaws.{AreKept}
use Rattle.cb_member.specs.Singles.{CanKeepInTurn, left_in}
use Rattle.cb_member.proofs.singles.Singles.keep_in.Given as goal

-- the buffer can keep those that are left, and whatever it is then, all were kept
abbrev pub invariant-singles : goal.invariant-singles
invariant-singles l = record {
  can : CanKeepInTurn l.fn.delivered (left_in l.left) l.buffer;
  all_then : (after : Buffer) → AreKept l.buffer (left_in l.left) after → AreKept l.fn.buffer (left_in l.fn.self) after;
}

abbrev pub decreases-singles : goal.decreases-singles
decreases-singles l = length (left_in l.left)
