-- How a fault is printed: by its name.
use Rattle.std.specs.Prelude.{ℕ, List, codes}
use Rattle.cb_rooms.specs.declared.fault.ConferenceFault.{ConferenceFault}
use Rattle.cb_rooms.specs.declared.fault.ConferenceFault.TheVariants as conferences
use Rattle.cb_rooms.specs.declared.fault.ComposeFault.{ComposeFault}
use Rattle.cb_rooms.specs.declared.fault.ComposeFault.TheVariants as composes

abbrev pub conference_fault_text : ConferenceFault → List ℕ
conference_fault_text conferences.BadScreen = codes "BadScreen"
conference_fault_text conferences.NoMemory = codes "NoMemory"

abbrev pub compose_fault_text : ComposeFault → List ℕ
compose_fault_text composes.BadRoom = codes "BadRoom"
compose_fault_text composes.UnknownQuestion = codes "UnknownQuestion"
compose_fault_text composes.BadText = codes "BadText"
compose_fault_text composes.TooLong = codes "TooLong"
compose_fault_text composes.NoMemory = codes "NoMemory"
