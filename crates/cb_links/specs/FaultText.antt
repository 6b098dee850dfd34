-- The text of a fault: its name.
use Rattle.std.specs.Prelude.{ℕ, List, codes}
use Rattle.cb_links.specs.declared.link.LinkFault.{LinkFault}
use Rattle.cb_links.specs.declared.link.LinkFault.TheVariants as links

abbrev pub link_fault_text : LinkFault → List ℕ
link_fault_text links.Device = codes "Device"
link_fault_text links.NoMemory = codes "NoMemory"
