use Rattle.std.proofs.Common.{◌≡◌, ◌+◌, ◌-◌, ◌*◌, ◌≤◌, ℕ, length}
use Rattle.std.specs.List.{range_with_len, sum_by}
use Rattle.cb_member.specs.Readings.{waiting, waiting_of}
use Rattle.cb_member.specs.State.{OnAll}
use Rattle.cb_member.proofs.state.State.waiting.Given as goal

-- what was counted so far and the other members make up the whole
abbrev pub invariant-loop-i : goal.invariant-loop-i
invariant-loop-i l =
    OnAll l.self (λ facts. l.count + sum_by (λ (i : ℕ). length (waiting_of l.self.seat facts i)) (range_with_len l.i (l.i-end - l.i)) ≡ waiting l.self.seat facts)
    × (l.count ≤ l.i * 256) × (l.i-end ≤ 64)
