use Rattle.std.proofs.Common.{refl}
use Rattle.cb_frames.specs.Reading.{head_at}
use Rattle.cb_frames.proofs.counting.pass_head.Goals as goal

pub returns : goal.returns
unfolding head_at
returns c =
    let rest = c.in_ok-rest.ensures in (
      (record { group = c.in_ok-_group._group; sender = c.in_ok-sender.sender; number = c.in_ok-message.message; changes = rest.0.0 }, rest.0.1),
      rw (c.in_ok-_group.ensures, c.in_ok-sender.ensures, c.in_ok-message.ensures, c.in_ok-count.ensures, rest.1) refl,
      (refl, rest.2),
    )
