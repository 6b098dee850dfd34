use Rattle.std.proofs.Common.{◌≡◌, ◌≤◌, ◌++◌, drop, length, map, sum}
use Rattle.arrayvec.specs.ArrayVec.{array_vec_len}
use Rattle.cb_handle.specs.Payloads.{payloads_in}
use Rattle.cb_handle.proofs.payloads.cut.Given as goal

-- the payloads of the lengths before, and the bytes have those of the others
abbrev pub invariant-loop-length : goal.invariant-loop-length
invariant-loop-length l = record {
  room : array_vec_len l.payloads ≡ l.length-index;
  enough : sum (drop l.length-index l.lengths) ≤ length l.rest;
  cut : map (λ payload. payload.now) l.payloads.items ++ payloads_in l.rest (drop l.length-index l.lengths) ≡ payloads_in l.bytes l.lengths;
}
