use Rattle.std.proofs.Common.{refl}
use Rattle.cb_frames.specs.Reading.{head_at}
use Rattle.cb_frames.proofs.reading.head_parts.Goals as goal

pub returns : goal.returns
unfolding head_at
returns c =
    let changes = c.in_ok-changes.ensures in (
      (record { group = c.in_ok-group.group; sender = c.in_ok-sender.sender; number = c.in_ok-message.message; changes = changes.0.0 }, changes.0.1),
      rw (c.in_ok-group.ensures, c.in_ok-sender.ensures, c.in_ok-message.ensures, c.in_ok-count.ensures, changes.1) refl,
      (record { group = refl; sender = refl; number = refl; changes = changes.2.0 }, changes.2.1),
    )
