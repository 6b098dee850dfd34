use Rattle.std.proofs.Common.{length, min}
use Rattle.cb_lock.specs.Claims.{receipts_of}
use Rattle.cb_lock.proofs.Checking.{counted}
use Rattle.cb_lock.proofs.closing.count.Goals as goal

pub returns : goal.returns
returns g c =
    counted c.args.seats.now c.loop-seat.seat-index c.loop-seat.count (min (length (receipts_of c.args.seats.now)) 18446744073709551615) 18446744073709551615 c.loop-seat-test.false c.loop-seat.invariant.0 c.loop-seat.invariant.1
