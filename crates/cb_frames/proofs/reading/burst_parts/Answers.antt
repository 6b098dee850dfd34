use Rattle.std.proofs.Common.{arith, map, refl}
use Rattle.cb_frames.specs.Fields.{Many}
use Rattle.cb_frames.specs.Fault.{messages_rule}
use Rattle.cb_frames.specs.Reading.{carrying, burst_at}
use Rattle.cb_frames.specs.Parts.{bytes_at_place}
use Rattle.cb_frames.proofs.Decoding.{carried_is_end}
use Rattle.cb_frames.proofs.reading.burst_parts.Goals as goal

pub returns-clause-parts : goal.returns-clause-parts
unfolding burst_at
returns-clause-parts c =
    let head = c.in_ok-head.ensures in
    let places = c.in_ok-places.ensures in (
      carrying head.0.0 (Many (map (bytes_at_place c.in_ok-count.carried.now) c.in_ok-places.places.items)),
      rw (head.1, ← head.2.1, head.2.0.number, c.in_ok-count.ensures.value, places.payloads, c.in_ok-end.ensures) refl,
      (head.0.0, head.2.0, places.within, refl),
    )

pub returns-clause-end : goal.returns-clause-end
returns-clause-end c =
    let head = c.in_ok-head.ensures in
    carried_is_end c.args.bytes.now head.0 (messages_rule c.in_ok-head.head.number) (c.in_ok-count.count, c.in_ok-count.carried.now) (λ i. omega (arith, c.type_inv.bytes i)) head.1 (rw (← head.2.1) c.in_ok-count.ensures.value)
