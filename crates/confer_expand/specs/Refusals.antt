-- How a refusal is printed: by its name, and what it says.
use Rattle.std.specs.Prelude.{ℕ, List, codes}
use Rattle.cb_frames.specs.FaultText.{fault_text}
use Rattle.cb_diffs.specs.FaultText.{expand_fault_text}
use Rattle.confer_expand.specs.declared.refusal.Refusal.{Refusal}
use Rattle.confer_expand.specs.declared.refusal.Refusal.TheVariants as refusals

abbrev pub refusal_text : Refusal → List ℕ
refusal_text refusals.BadHex = codes "BadHex"
refusal_text (refusals.Frame fault) = fault_text fault
refusal_text refusals.NotACast = codes "NotACast"
refusal_text refusals.OtherGroup = codes "OtherGroup"
refusal_text (refusals.Expand fault) = expand_fault_text fault
