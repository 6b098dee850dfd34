-- A handle may go to another thread.
--     box_crosses      what lies in a box may, and any thread may free its block
--     held_crosses     so may what a handle owns, open or closed
--     fields_cross     a pointer and a test may
--     end_crosses      what is left of a handle at its end may
use Rattle.std.specs.Prelude.{Bool, Option, Some, None}
use base.Shift.{Keyless}
use denote.Exit.{Kept}
use denote.Memory.{lone}
use denote.Param.Send.{AllSend, IsSend, Quiet, owning_send, struct_send, sendable}
use denote.RawPtr.{Ptr}
use denote.Struct.Owning.{shape, fields, to}
use denote.Struct.Struct.{exits_of}
use mir.Raw.{raw}
use Rattle.std.proofs.Crossing.{frees}
use Rattle.std_alloc.proofs.SendSync.{quiet, lies}
use Rattle.std_alloc.specs.Box.Ownership.{box_owns}
use Rattle.cb_handle.proofs.held.Held.TheSendSync.{the_send}
use Rattle.cb_handle.specs.Owning.{held_at, may_free}
use Rattle.cb_handle.specs.contracts.handle.Handle.{the_row, the_type}
use Rattle.cb_handle.specs.contracts.held.Held.{the_row as Inner}
use Rattle.cb_handle.specs.declared.held.Held.{Held}

box_crosses : (place : Ptr) (inside : Held) → Keyless (box_owns may_free Inner place inside)
box_crosses place inside =
    let block_crosses = frees.frees (record { memory = record { seal = tt } }) (raw (lone Inner.mir)) place in
    (lies Inner the_send place inside, block_crosses)

held_crosses : (is_open : Bool) (place : Ptr) (holds : Option Held) → Keyless (held_at is_open place holds)
held_crosses is_open place None = tt
held_crosses is_open place (Some inside) = (tt, box_crosses place inside)

fields_cross : AllSend (fields the_type)
fields_cross = (search sendable, (search sendable, tt))

end_crosses : (kept : Kept) → Quiet (the_type.exit kept)
end_crosses kept =
    let fields_end = (struct_send (shape the_type) fields_cross).leaving kept in
    quiet (to the_type) (exits_of kept (fields the_type)) fields_end

pub send : IsSend the_row
send = owning_send the_type fields_cross (λ shell. held_crosses shell.is_open shell.at shell.held) end_crosses
