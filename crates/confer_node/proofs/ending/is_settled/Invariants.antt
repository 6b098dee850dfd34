use Rattle.std.proofs.Common.{◌≡◌, ◌<◌, ℕ}
use Rattle.cb_history.specs.State.{stable_of_in}
use Rattle.cb_member.specs.Readings.{delivered_of_in, waiting_in}
use Rattle.confer_node.proofs.ending.is_settled.Given as goal

abbrev pub invariant-loop-i : goal.invariant-loop-i
invariant-loop-i l =
    (waiting_in l.member ≡ 0) × ((k : ℕ) → k < l.i → stable_of_in l.member k ≡ delivered_of_in l.member k)
