use Rattle.std.proofs.Common.{◌≡◌, ◌≤◌, ◌+◌, ◌*◌, drop}
use Rattle.std.specs.Vec.{vec_len, vec_capacity}
use Rattle.cb_frames.specs.declared.frame.TheConstants.{LAST_MEMBER}
use Rattle.cb_frames.specs.Parts.{pairs_but}
use Rattle.cb_frames.proofs.PairLoop.{SoFar}
use Rattle.cb_frames.proofs.pairs.list_short_changes.Given as goal

abbrev pub invariant-loop-turn : goal.invariant-loop-turn
invariant-loop-turn l = record {
  turns : vec_len l.changes ≡ l.turn;
  few : l.turn ≤ l.least;
  below : l.least ≤ LAST_MEMBER + 1;
  capacity : vec_capacity l.changes ≡ vec_capacity l.initial.changes;
  read : SoFar (pairs_but l.fn.own) l.count 0 l.bytes l.changes.items l.least l.turn (drop (2 * l.turn) l.bytes);
}
