use Rattle.std.proofs.Common.{◌≡◌, ◌-◌, ◌++◌}
use Rattle.std.specs.List.{range_with_len}
use Rattle.cb_threads.specs.Helps.{helps_for, helps_of}
use Rattle.cb_threads.proofs.asking.helps_of.Given as goal

-- the helps so far, and those for the senders to come
abbrev pub invariant-loop-sender : goal.invariant-loop-sender
invariant-loop-sender l = l.helps.items ++ helps_for l.member (range_with_len l.sender (l.member.seat.group.size - l.sender)) ≡ helps_of l.member
