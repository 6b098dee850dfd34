-- The text of a fault: its name.
use Rattle.std.specs.Prelude.{ℕ, List, codes}
use Rattle.cb_world.specs.declared.world.PlayFault.{PlayFault}
use Rattle.cb_world.specs.declared.world.PlayFault.TheVariants as faults

abbrev pub play_fault_text : PlayFault → List ℕ
play_fault_text faults.BadLimit = codes "BadLimit"
play_fault_text faults.NoMemory = codes "NoMemory"
