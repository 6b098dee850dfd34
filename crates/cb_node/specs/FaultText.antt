-- The texts of faults: their names.
use Rattle.std.specs.Prelude.{ℕ, List, ◌++◌, codes}
use Rattle.cb_history.specs.Refusals.{burst_refusal_text, cast_refusal_text}
use Rattle.cb_journal.specs.declared.keeper.KeepFault.{KeepFault}
use Rattle.cb_journal.specs.FaultText.{keep_fault_text}
use Rattle.cb_node.specs.declared.fault.NodeCastFault.{NodeCastFault}
use Rattle.cb_node.specs.declared.fault.NodeCastFault.TheVariants as casts
use Rattle.cb_node.specs.declared.fault.NodeBurstFault.{NodeBurstFault}
use Rattle.cb_node.specs.declared.fault.NodeBurstFault.TheVariants as bursts
use Rattle.cb_node.specs.declared.fault.TurnFault.{TurnFault}
use Rattle.cb_node.specs.declared.fault.TurnFault.TheVariants as turns

abbrev pub not_kept_text : KeepFault → List ℕ
not_kept_text fault = codes "NotKept(" ++ keep_fault_text fault ++ codes ")"

abbrev pub cast_fault_text : NodeCastFault → List ℕ
cast_fault_text (casts.Refused refusal) = cast_refusal_text refusal
cast_fault_text (casts.NotKept fault) = not_kept_text fault

abbrev pub burst_fault_text : NodeBurstFault → List ℕ
burst_fault_text (bursts.Refused refusal) = burst_refusal_text refusal
burst_fault_text (bursts.NotKept fault) = not_kept_text fault

abbrev pub turn_fault_text : TurnFault → List ℕ
turn_fault_text turns.HistoryFull = codes "HistoryFull"
turn_fault_text turns.NoMemory = codes "NoMemory"
turn_fault_text (turns.NotKept fault) = not_kept_text fault
