-- The text of a fault: its name.
use Rattle.std.specs.Prelude.{ℕ, List, codes}
use Rattle.cb_causality.specs.declared.fault.CastFault.{CastFault}
use Rattle.cb_causality.specs.declared.fault.CastFault.TheVariants.{Full, NoMemory}

abbrev pub fault_text : CastFault → List ℕ
fault_text Full = codes "Full"
fault_text NoMemory = codes "NoMemory"
