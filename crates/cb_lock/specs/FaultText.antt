-- The text of a fault at closing: its name, and the numbers that it holds.
use Rattle.std.specs.Prelude.{ℕ, List, ◌++◌, codes}
use Rattle.std.specs.Fmt.{decimal}
use Rattle.cb_lock.specs.declared.closing.CloseFault.{CloseFault}
use Rattle.cb_lock.specs.declared.closing.CloseFault.TheVariants as faults

abbrev pub close_fault_text : CloseFault → List ℕ
close_fault_text (faults.SeatsMissing claimed entries) = codes "SeatsMissing claimed " ++ decimal claimed ++ codes " entries " ++ decimal entries
close_fault_text faults.OtherMember = codes "OtherMember"
close_fault_text (faults.ReceiptMismatch place) = codes "ReceiptMismatch place " ++ decimal place
close_fault_text faults.NoMemory = codes "NoMemory"
