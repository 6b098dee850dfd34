-- The faults of whole texts, and how faults are printed.
use Rattle.std.specs.Prelude.{ℕ, List, ◌++◌, codes}
use Rattle.std.specs.Fmt.{decimal}
use Rattle.cb_trace.specs.declared.fault.TraceFault.{TraceFault}
use Rattle.cb_trace.specs.declared.fault.TraceFault.TheVariants as traces
use Rattle.cb_lines.specs.declared.fault.LineFault.{LineFault}
use Rattle.cb_lines.specs.declared.fault.LineFault.TheVariants as lines
use Rattle.cb_trace.specs.declared.fault.AuditFault.{AuditFault}
use Rattle.cb_trace.specs.declared.fault.AuditFault.TheVariants as audits
use Rattle.cb_trace.specs.declared.fault.QueryFault.{QueryFault}
use Rattle.cb_trace.specs.declared.fault.QueryFault.TheVariants as queries
use Rattle.cb_trace.specs.declared.fault.WriteFault.{WriteFault}
use Rattle.cb_trace.specs.declared.fault.WriteFault.TheVariants as writes

-- the fault of a text in which this line has that fault
abbrev pub fault_at : LineFault → ℕ → TraceFault
fault_at lines.NoLine line = traces.BadLine line
fault_at lines.NoMemory line = traces.NoMemory

abbrev pub trace_fault_text : TraceFault → List ℕ
trace_fault_text (traces.BadLine line) = codes "BadLine " ++ decimal line
trace_fault_text traces.NoMemory = codes "NoMemory"

abbrev pub write_fault_text : WriteFault → List ℕ
write_fault_text writes.MixedGroups = codes "MixedGroups"
write_fault_text writes.NoMemory = codes "NoMemory"

abbrev pub audit_fault_text : AuditFault → List ℕ
audit_fault_text audits.WrongMember = codes "WrongMember"
audit_fault_text (audits.WrongAnswer member entry) = codes "WrongAnswer member " ++ decimal member ++ codes " entry " ++ decimal entry
audit_fault_text (audits.Unsent member entry) = codes "Unsent member " ++ decimal member ++ codes " entry " ++ decimal entry
audit_fault_text audits.NoMemory = codes "NoMemory"

abbrev pub query_fault_text : QueryFault → List ℕ
query_fault_text queries.UnknownMessage = codes "UnknownMessage"
query_fault_text queries.NoMemory = codes "NoMemory"
