-- How a fault is printed: by its name, and what it says.
use Rattle.std.specs.Prelude.{ℕ, List, ◌++◌, codes}
use Rattle.std.specs.Fmt.{decimal}
use Rattle.cb_diffs.specs.declared.expander.ExpandFault.{ExpandFault}
use Rattle.cb_diffs.specs.declared.expander.ExpandFault.TheVariants as faults

abbrev pub expand_fault_text : ExpandFault → List ℕ
expand_fault_text faults.BadMember = codes "BadMember"
expand_fault_text (faults.NotNext expected found) = codes "NotNext expected " ++ decimal expected ++ codes " found " ++ decimal found
expand_fault_text faults.NoMemory = codes "NoMemory"
