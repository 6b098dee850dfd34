use Rattle.std.proofs.Common.{sym, subst}
use Rattle.std.specs.Prelude.{Option}
use Rattle.cb_handle.specs.declared.held.Held.{Held}
use Rattle.jolunza.specs.Calls.{Resumes}
use Rattle.jolunza.proofs.Journals.{resumes_by}
use Rattle.jolunza.proofs.jolunza_resume.Goals as goal

pub returns-in-Ok : goal.returns-in-Ok
returns-in-Ok c =
    resumes_by c.args.bytes.now c.args.history_max c.args.journal.now c.hold.new.journal c.in-Ok.resumed c.jolunza_close.new.handle.held c.hold.new.handle.held c.hold.result c.in-Ok.ensures
    c.jolunza_close.ensures c.hold.ensures

pub returns-in-Err : goal.returns-in-Err
returns-in-Err c =
    subst (λ (held : Option Held). Resumes c.args.bytes.now c.args.history_max c.args.journal.now c.tell_fault.new.journal held c.tell_fault.result) (sym c.jolunza_close.ensures)
    (record { fault = c.in-Err.fault; code_is = c.tell_fault.ensures.code; told = c.tell_fault.ensures.told; refuses = c.in-Err.ensures })
