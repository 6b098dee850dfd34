use Rattle.std.proofs.Common.{map, drop}
use Rattle.cb_history.specs.Facts.{entry_fields}
use Rattle.cb_lock.proofs.Checking.{SeatsGoOn}
use Rattle.cb_lock.proofs.closing.wrong_in_seats.Given as goal

-- what the seats to come find is what all find
abbrev pub invariant-loop-seat : goal.invariant-loop-seat
invariant-loop-seat g l = SeatsGoOn (map entry_fields l.entries) l.seats (drop l.seat-index l.seats) l.seen
