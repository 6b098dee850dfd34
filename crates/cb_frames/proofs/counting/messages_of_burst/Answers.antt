use Rattle.std.proofs.Common.{map, refl}
use Rattle.cb_frames.specs.Fields.{Many}
use Rattle.cb_frames.specs.Reading.{carrying, burst_at}
use Rattle.cb_frames.specs.Parts.{bytes_at_place}
use Rattle.cb_frames.proofs.PayloadLoop.{as_many_read}
use Rattle.cb_frames.proofs.counting.messages_of_burst.Goals as goal

pub returns : goal.returns
unfolding burst_at
returns c =
    let head = c.in_ok-first.ensures in
    let places = c.in_ok-_places.ensures in
    let payloads = map (bytes_at_place c.in_ok-count.rest.now) c.in_ok-_places._places.items in (
      carrying head.0.0 (Many payloads),
      rw (head.1, ← head.2.1, head.2.0, c.in_ok-count.ensures.value, places.payloads, c.in_ok-end.ensures) refl,
      as_many_read c.in_ok-count.count 0 c.in_ok-count.rest.now payloads _ places.payloads,
    )
