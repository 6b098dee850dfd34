-- What a handle owns: closed nothing, open the boxed member with its frames and the right to free the box.
use Rattle.std.specs.Prelude.{Bool, true, false, Option, Some, None}
use mir.Syntax.{Ty}
use base.Fml.{Fml, fsep, feq}
use denote.RawPtr.{Ptr}
use Rattle.std.specs.contracts.impls.GlobalAllocator.TheImpl.{ghosts}
use Rattle.std_alloc.specs.Box.Ownership.{box_owns}
use Rattle.cb_handle.specs.declared.held.Held.{Held}
use Rattle.cb_handle.specs.contracts.held.Held.{the_row}

-- every `Global` is one heap
abbrev pub may_free : Ty → Ptr → Fml
may_free = ghosts.dealloc_token (record { memory = record { seal = tt } })

abbrev pub held_at : Bool → Ptr → Option Held → Fml
held_at is_open at None = feq Bool is_open false
held_at is_open at (Some held) = fsep (feq Bool is_open true) (box_owns may_free the_row at held)
