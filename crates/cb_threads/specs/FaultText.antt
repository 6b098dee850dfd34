-- The text of a fault: its name, and what it holds.
use Rattle.std.specs.Prelude.{ℕ, List, ◌++◌, codes}
use Rattle.std.specs.Fmt.{decimal}
use Rattle.cb_lock.specs.FaultText.{close_fault_text}
use Rattle.cb_threads.specs.declared.report.WorkerFault.{WorkerFault}
use Rattle.cb_threads.specs.declared.report.WorkerFault.TheVariants as workers
use Rattle.cb_threads.specs.declared.group.GroupFault.{GroupFault}
use Rattle.cb_threads.specs.declared.group.GroupFault.TheVariants as groups

abbrev pub worker_fault_text : WorkerFault → List ℕ
worker_fault_text workers.NoThread = codes "NoThread"
worker_fault_text workers.NoMemory = codes "NoMemory"

abbrev pub group_fault_text : GroupFault → List ℕ
group_fault_text groups.BadPlan = codes "BadPlan"
group_fault_text groups.NoThread = codes "NoThread"
group_fault_text groups.NoMemory = codes "NoMemory"
group_fault_text (groups.Close member fault) = codes "Close member " ++ decimal member ++ codes ": " ++ close_fault_text fault
