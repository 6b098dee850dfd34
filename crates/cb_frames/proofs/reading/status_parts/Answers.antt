use Rattle.std.proofs.Common.{refl}
use Rattle.cb_frames.specs.Reading.{status_at}
use Rattle.cb_frames.proofs.reading.status_parts.Goals as goal

pub returns : goal.returns
unfolding status_at
returns c =
    let values = c.in_ok-values.ensures in (
      record { group = c.in_ok-group.group; sender = c.in_ok-sender.sender; values = values.0.0 },
      rw (c.in_ok-group.ensures, c.in_ok-sender.ensures, c.in_ok-count.ensures, values.1, ← values.2.1, c.in_ok-end.ensures) refl,
      record { group = refl; sender = refl; values = values.2.0 },
    )
