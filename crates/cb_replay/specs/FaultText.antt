-- How faults are printed.
use Rattle.std.specs.Prelude.{ℕ, List, ◌++◌, codes}
use Rattle.std.specs.Fmt.{decimal}
use Rattle.cb_replay.specs.declared.fault.ResumeFault.{ResumeFault}
use Rattle.cb_replay.specs.declared.fault.ResumeFault.TheVariants as faults

abbrev pub resume_fault_text : ResumeFault → List ℕ
resume_fault_text faults.BadMember = codes "BadMember"
resume_fault_text faults.BadLimit = codes "BadLimit"
resume_fault_text (faults.TooLong entries) = codes "TooLong entries " ++ decimal entries
resume_fault_text (faults.NotLegal entry) = codes "NotLegal entry " ++ decimal entry
resume_fault_text faults.NoMemory = codes "NoMemory"
