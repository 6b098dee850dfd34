use Rattle.std.proofs.Common.{◌≡◌, ltb, length, map, drop}
use Rattle.std.specs.List.{concat}
use Rattle.cb_frames.specs.declared.frame.TheConstants.{LONGEST_PAYLOAD}
use Rattle.cb_frames.specs.Laws.{IsBytes}
use Rattle.cb_reference.proofs.Casting.{payload_of}
use Rattle.cb_reference.proofs.cast.are_too_long.Given as goal

-- the other payloads are too long for what is left, and those before them are bytes
abbrev pub invariant-loop-payload : goal.invariant-loop-payload
invariant-loop-payload l = record {
  long : ltb l.left (length (concat (map payload_of (drop l.payload-index l.payloads)))) ≡ ltb LONGEST_PAYLOAD (length (concat (map payload_of l.payloads)));
  bytes : IsBytes (concat (map payload_of (drop l.payload-index l.payloads))) → IsBytes (concat (map payload_of l.payloads));
}
