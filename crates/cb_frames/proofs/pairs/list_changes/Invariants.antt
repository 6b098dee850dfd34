use Rattle.std.proofs.Common.{◌≤◌, min}
use Rattle.std.specs.Vec.{vec_len, vec_capacity}
use Rattle.cb_frames.specs.declared.pairs.TheConstants.{MOST_CHANGES}
use Rattle.cb_frames.specs.Parts.{pairs_but}
use Rattle.cb_frames.proofs.PairLoop.{SoFar}
use Rattle.cb_frames.proofs.pairs.list_changes.Given as goal

abbrev pub invariant-loop : goal.invariant-loop
invariant-loop l = record {
  few : vec_len l.changes ≤ l.least;
  turns : vec_len l.changes ≤ l.counter;
  below : l.least ≤ 64;
  room : min MOST_CHANGES l.count ≤ vec_capacity l.changes;
  read : SoFar (pairs_but l.own) l.count 0 l.bytes l.changes.items l.least l.counter l.rest;
}
