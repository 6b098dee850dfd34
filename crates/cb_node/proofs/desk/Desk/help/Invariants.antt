use Rattle.std.proofs.Common.{◌≡◌, ◌-◌, ◌++◌, None}
use Rattle.std.specs.List.{range_with_len}
use Rattle.cb_node.specs.Course.{Goes}
use Rattle.cb_node.specs.Desk.{IsDesk, IsSameButPost, helps_for, helps_of, state_in}
use Rattle.cb_node.specs.Kept.{work_of}
use Rattle.cb_node.proofs.desk.Desk.help.Given as goal

-- what was asked for so far, and what is left to ask for is all
abbrev pub invariant-loop-sender : goal.invariant-loop-sender
invariant-loop-sender l =
    IsDesk l.self
    × Goes (work_of (state_in l.fn.self)) (work_of (state_in l.self))
    × IsSameButPost (state_in l.fn.self) (state_in l.self)
    × (l.self.fault ≡ None)
    × ((state_in l.self).post ++ helps_for (state_in l.fn.self).kept (range_with_len l.sender (l.fn.self.member.seat.group.size - l.sender)) ≡ (state_in l.fn.self).post ++ helps_of (state_in l.fn.self).kept)
