use Rattle.std.proofs.Common.{◌≤◌, ◌≡◌}
use Rattle.arrayvec.specs.ArrayVec.{array_vec_len}
use Rattle.cb_frames.specs.declared.frame.TheConstants.{LONGEST_PAYLOAD}
use Rattle.cb_frames.proofs.PayloadLoop.{SoFar}
use Rattle.cb_frames.proofs.payloads.places_of_payloads.Given as goal

abbrev pub invariant-loop : goal.invariant-loop
invariant-loop l = record {
  room : array_vec_len l.places ≡ l.counter;
  below : l.before ≤ LONGEST_PAYLOAD;
  read : SoFar l.count l.bytes l.places.items l.before l.counter l.rest;
}
