use Rattle.std.proofs.Common.{◌≡◌, ◌<◌, ℕ}
use Rattle.std.specs.Prelude.{◌≢◌}
use Rattle.confer_node.specs.Meeting.{HasHeard}
use Rattle.confer_node.proofs.meeting.Met.has_met_all.Given as goal

-- those so far were heard
abbrev pub invariant-loop-i : goal.invariant-loop-i
invariant-loop-i l = (k : ℕ) → k < l.i → k ≢ l.self.seat.me → HasHeard l.self k
