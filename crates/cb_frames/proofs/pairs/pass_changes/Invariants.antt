use Rattle.std.proofs.Common.{◌≤◌, List}
use Rattle.cb_frames.specs.declared.frame.Change.{Change}
use Rattle.cb_frames.specs.Parts.{pairs_but}
use Rattle.cb_frames.proofs.PairLoop.{SoFar}
use Rattle.cb_frames.proofs.pairs.pass_changes.Given as goal

abbrev pub invariant-loop : goal.invariant-loop
invariant-loop l = record {
  below : l.least ≤ 64;
  read : (front : List Change) × SoFar (pairs_but l.own) l.count 0 l.bytes front l.least l.counter l.rest;
}
