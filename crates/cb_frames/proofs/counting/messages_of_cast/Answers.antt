use Rattle.std.proofs.Common.{refl}
use Rattle.cb_frames.specs.Fields.{One}
use Rattle.cb_frames.specs.Reading.{carrying, cast_at}
use Rattle.cb_frames.proofs.counting.messages_of_cast.Goals as goal

pub returns : goal.returns
unfolding cast_at
returns c =
    let head = c.in_ok-_number.ensures in (
      carrying head.0.0 (One c.in_ok-_payload._payload.now),
      rw (head.1, ← head.2.1, c.in_ok-length.ensures.value, c.in_ok-_payload.ensures) refl,
      refl,
    )
