use Rattle.std.proofs.Common.{◌≡◌, ◌+◌, ◌≤◌, length, min, drop}
use Rattle.cb_lock.specs.Claims.{receipts_of}
use Rattle.cb_lock.proofs.closing.count.Given as goal

-- those so far and those to come are all
abbrev pub invariant-loop-seat : goal.invariant-loop-seat
invariant-loop-seat g l = (l.count ≤ 18446744073709551615) × (min (l.count + length (receipts_of (drop l.seat-index l.seats))) 18446744073709551615 ≡ min (length (receipts_of l.seats)) 18446744073709551615)
