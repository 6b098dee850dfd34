use Rattle.std.proofs.Common.{◌≡◌, map, take}
use Rattle.cb_frames.specs.Parts.{bytes_at_place}
use Rattle.cb_frames.proofs.payloads.shared_payloads.Given as goal

abbrev pub invariant-loop-place : goal.invariant-loop-place
invariant-loop-place l = l.payloads.items ≡ map (bytes_at_place l.bytes) (take l.place-index l.places)
