-- The faults of a journal that is read, and of entries that are taken, as those of a member that comes back by it.
use Rattle.std.specs.Prelude.{ℕ, ◌+◌, ◌<◌, ◌^◌}
use Rattle.cb_journal.specs.declared.fault.ReadFault.{ReadFault}
use Rattle.cb_journal.specs.declared.fault.ReadFault.TheVariants as reads
use Rattle.cb_replay.specs.declared.fault.ResumeFault as replay
use Rattle.cb_replay.specs.declared.fault.ResumeFault.TheVariants as replays
use Rattle.cb_handle_journal.specs.declared.fault.ResumeFault.{ResumeFault}
use Rattle.cb_handle_journal.specs.declared.fault.ResumeFault.TheVariants.{NoHead, BadLine, NotLegal, NoMemory}

abbrev pub fault_of_read : ReadFault → ResumeFault
fault_of_read reads.NoHead = NoHead
fault_of_read (reads.BadLine line) = BadLine line
fault_of_read reads.NoMemory = NoMemory

-- the head line is line 1, so entry 1 stands in line 2
abbrev pub line_of_entry : ℕ → ℕ
line_of_entry number = number + 1

-- a core that is to take entries has no other fault where the group has the member
abbrev pub fault_of_replay : replay.ResumeFault → ResumeFault
fault_of_replay (replays.NotLegal number) = NotLegal (line_of_entry number)
fault_of_replay replays.BadMember = NoMemory
fault_of_replay replays.BadLimit = NoMemory
fault_of_replay (replays.TooLong count) = NoMemory
fault_of_replay replays.NoMemory = NoMemory

-- the number of the line of a wrong entry is one that can be told
abbrev pub HasLine : replay.ResumeFault → Type 0
HasLine (replays.NotLegal number) = line_of_entry number < 2 ^ 64
HasLine replays.BadMember = Unit {0}
HasLine replays.BadLimit = Unit {0}
HasLine (replays.TooLong count) = Unit {0}
HasLine replays.NoMemory = Unit {0}
