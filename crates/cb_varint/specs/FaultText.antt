-- How a fault is printed: by its name.
use Rattle.std.specs.Prelude.{ℕ, List, codes}
use Rattle.cb_varint.specs.declared.fault.NumberFault.{NumberFault}
use Rattle.cb_varint.specs.declared.fault.NumberFault.TheVariants as faults

abbrev pub number_fault_text : NumberFault → List ℕ
number_fault_text faults.Short = codes "Short"
number_fault_text faults.NotMinimal = codes "NotMinimal"
number_fault_text faults.TooLarge = codes "TooLarge"
