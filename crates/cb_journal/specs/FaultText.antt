-- How faults are printed.
use Rattle.std.specs.Prelude.{ℕ, List, ◌++◌, codes}
use Rattle.std.specs.Fmt.{decimal}
use Rattle.cb_journal.specs.declared.fault.ReadFault.{ReadFault}
use Rattle.cb_journal.specs.declared.fault.ReadFault.TheVariants.{NoHead, BadLine, NoMemory}
use Rattle.cb_journal.specs.declared.fault.AppendFault.{AppendFault}
use Rattle.cb_journal.specs.declared.fault.AppendFault.TheVariants as appends
use Rattle.cb_journal.specs.declared.keeper.KeepFault.{KeepFault}
use Rattle.cb_journal.specs.declared.keeper.KeepFault.TheVariants as keeping

abbrev pub read_fault_text : ReadFault → List ℕ
read_fault_text NoHead = codes "NoHead"
read_fault_text (BadLine line) = codes "BadLine " ++ decimal line
read_fault_text NoMemory = codes "NoMemory"

abbrev pub append_fault_text : AppendFault → List ℕ
append_fault_text (appends.Cut kind) = codes "Cut"
append_fault_text (appends.Write kind) = codes "Write"
append_fault_text (appends.Sync kind) = codes "Sync"
append_fault_text appends.NoMemory = codes "NoMemory"

abbrev pub keep_fault_text : KeepFault → List ℕ
keep_fault_text keeping.Device = codes "Device"
keep_fault_text keeping.NoMemory = codes "NoMemory"
