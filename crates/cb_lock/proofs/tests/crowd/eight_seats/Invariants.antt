use Rattle.std.proofs.Common.{◌≡◌, ◌+◌}
use Rattle.cb_lock.proofs.tests.crowd.eight_seats.Given as goal

-- each seat that was split off took a part
abbrev pub invariant-loop-part : goal.invariant-loop-part
invariant-loop-part g l = l.seat.parts + l._part ≡ 9
