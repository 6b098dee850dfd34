-- The exit statuses of `confer`.
use Rattle.std.specs.Prelude.{ℕ, List, ◌++◌, codes, Option, Some, None}
use Rattle.std.specs.Fmt.{decimal}
use Rattle.clap.specs.Words.{kind_of}
use Rattle.clap.specs.declared.error.kind.ErrorKind.{ErrorKind}
use Rattle.clap.specs.declared.error.kind.ErrorKind.TheVariants as kinds
use Rattle.confer_text.specs.declared.fault.LinesFault.{LinesFault}
use Rattle.confer_text.specs.declared.fault.LinesFault.TheVariants as lines
use Rattle.confer_play.specs.declared.fault.ScriptFault.{ScriptFault}
use Rattle.confer_play.specs.declared.fault.ScriptFault.TheVariants as scripts
use Rattle.confer_audit.specs.declared.fault.TraceInputFault.{TraceInputFault}
use Rattle.confer_audit.specs.declared.fault.TraceInputFault.TheVariants as traces
use Rattle.confer_run.specs.declared.fault.RunFault.{RunFault}
use Rattle.confer_run.specs.declared.fault.RunFault.TheVariants as runs
use Rattle.confer_run.specs.declared.fault.ThreadFault.{ThreadFault}
use Rattle.confer_run.specs.declared.fault.ThreadFault.TheVariants as threads
use Rattle.confer.specs.declared.cli.fault.Fault.{Fault}
use Rattle.confer.specs.declared.cli.fault.Fault.TheVariants as faults

abbrev pub words_status : ErrorKind → ℕ
words_status kinds.OutOfMemory = 5
words_status kind = 2

abbrev pub lines_status : LinesFault → ℕ
lines_status lines.Read = 3
lines_status lines.Write = 3
lines_status lines.TooLong = 3
lines_status lines.NoMemory = 5

abbrev pub script_status : ScriptFault → ℕ
script_status (scripts.Lines fault) = lines_status fault
script_status (scripts.BadStep line) = 4

abbrev pub trace_status : TraceInputFault → ℕ
trace_status (traces.Lines fault) = lines_status fault
trace_status (traces.BadTrace line) = 4

abbrev pub thread_status : ThreadFault → ℕ
thread_status threads.NoLink = 3
thread_status threads.NoThread = 3
thread_status threads.BadReceipts = 3
thread_status threads.NoMemory = 5

abbrev pub run_status : RunFault → ℕ
run_status runs.Write = 3
run_status (runs.Threads fault) = thread_status fault

abbrev pub status_of : Fault → ℕ
status_of (faults.Words error) = words_status (kind_of error)
status_of faults.NotText = 2
status_of faults.NoOrder = 2
status_of faults.NoMemory = 5
status_of (faults.Lines fault) = lines_status fault
status_of (faults.Play fault) = script_status fault
status_of (faults.Audit fault) = trace_status fault
status_of (faults.Run fault) = run_status fault

-- what is said of a fault on standard error, but for what `clap` says
abbrev pub words_said : ErrorKind → Option (List ℕ)
words_said kinds.OutOfMemory = Some (codes "confer: out of memory\n")
words_said kind = None

abbrev pub lines_said : LinesFault → List ℕ
lines_said lines.Read = codes "confer: read fault\n"
lines_said lines.Write = codes "confer: write fault\n"
lines_said lines.TooLong = codes "confer: input too long\n"
lines_said lines.NoMemory = codes "confer: out of memory\n"

-- a bad line is named by its number, from 1, and what it is said to be stands behind it
abbrev pub bad_line_said : ℕ → List ℕ → List ℕ
bad_line_said line said = codes "confer: line " ++ (decimal line ++ said)

abbrev pub script_said : ScriptFault → List ℕ
script_said (scripts.Lines fault) = lines_said fault
script_said (scripts.BadStep line) = bad_line_said line (codes ": bad step\n")

abbrev pub trace_said : TraceInputFault → List ℕ
trace_said (traces.Lines fault) = lines_said fault
trace_said (traces.BadTrace line) = bad_line_said line (codes ": bad trace\n")

abbrev pub thread_said : ThreadFault → List ℕ
thread_said threads.NoLink = codes "confer: no link\n"
thread_said threads.NoThread = codes "confer: no thread\n"
thread_said threads.BadReceipts = codes "confer: bad receipts\n"
thread_said threads.NoMemory = codes "confer: out of memory\n"

abbrev pub run_said : RunFault → List ℕ
run_said runs.Write = codes "confer: write fault\n"
run_said (runs.Threads fault) = thread_said fault

abbrev pub said_of : Fault → Option (List ℕ)
said_of (faults.Words error) = words_said (kind_of error)
said_of faults.NotText = Some (codes "confer: a word of the command line is not UTF-8\n")
said_of faults.NoOrder = Some (codes "confer: the words order nothing\n")
said_of faults.NoMemory = Some (codes "confer: out of memory\n")
said_of (faults.Lines fault) = Some (lines_said fault)
said_of (faults.Play fault) = Some (script_said fault)
said_of (faults.Audit fault) = Some (trace_said fault)
said_of (faults.Run fault) = Some (run_said fault)
