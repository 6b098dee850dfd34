-- The exit statuses.
use Rattle.std.specs.Prelude.{ℕ}
use Rattle.clap.specs.Words.{kind_of}
use Rattle.clap.specs.declared.error.kind.ErrorKind.{ErrorKind}
use Rattle.clap.specs.declared.error.kind.ErrorKind.TheVariants as kinds
use Rattle.cb_history.specs.declared.answer.CastRefusal.TheVariants as casts
use Rattle.cb_node.specs.declared.fault.NodeCastFault.{NodeCastFault}
use Rattle.cb_node.specs.declared.fault.NodeCastFault.TheVariants as castings
use Rattle.cb_node.specs.declared.fault.TurnFault.{TurnFault}
use Rattle.cb_node.specs.declared.fault.TurnFault.TheVariants as turns
use Rattle.cb_peers.specs.declared.make_fault.MakeFault.{MakeFault}
use Rattle.cb_peers.specs.declared.make_fault.MakeFault.TheVariants as links
use Rattle.confer_text.specs.declared.fault.LinesFault.{LinesFault}
use Rattle.confer_text.specs.declared.fault.LinesFault.TheVariants as lines
use Rattle.confer_node.specs.declared.ending.Ended.{Ended}
use Rattle.confer_node.specs.declared.ending.Ended.TheVariants as ends
use Rattle.confer_node.specs.declared.journal.JournalFault.{JournalFault}
use Rattle.confer_node.specs.declared.journal.JournalFault.TheVariants as journals
use Rattle.confer_node.specs.declared.fault.Fault.{Fault}
use Rattle.confer_node.specs.declared.fault.Fault.TheVariants as faults

abbrev pub words_status : ErrorKind → ℕ
words_status kinds.OutOfMemory = 5
words_status kind = 2

abbrev pub journal_status : JournalFault → ℕ
journal_status journals.NoMemory = 5
journal_status fault = 3

abbrev pub link_status : MakeFault → ℕ
link_status links.BadMember = 2
link_status links.BadAddresses = 2
link_status links.NoMemory = 5
link_status fault = 3

abbrev pub lines_status : LinesFault → ℕ
lines_status lines.NoMemory = 5
lines_status fault = 3

abbrev pub cast_status : NodeCastFault → ℕ
cast_status (castings.Refused casts.NoMemory) = 5
cast_status fault = 3

abbrev pub turn_status : TurnFault → ℕ
turn_status turns.NoMemory = 5
turn_status fault = 3

-- of a run that stops with this fault
abbrev pub status_of : Fault → ℕ
status_of (faults.Words error) = words_status (kind_of error)
status_of faults.NotText = 2
status_of faults.NoAddress = 2
status_of faults.NoMember = 2
status_of faults.NoTick = 2
status_of faults.NoMemory = 5
status_of (faults.Journal fault) = journal_status fault
status_of (faults.Link fault) = link_status fault
status_of faults.NoThread = 3
status_of faults.NoClock = 3
status_of (faults.Lines fault) = lines_status fault
status_of (faults.Cast fault) = cast_status fault
status_of (faults.Turn fault) = turn_status fault
status_of faults.Trace = 3

-- of a run that ends without one
abbrev pub end_status : Ended → ℕ
end_status ends.Stable = 0
end_status ends.TimeOver = 1
