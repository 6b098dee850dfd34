-- How many messages come out of a reorder buffer, one after the other, as casts are kept and taken.
use Rattle.std.specs.Prelude.{◌≡◌, ℕ, ◌+◌, None, length}
use Rattle.std.specs.FinMap as map
use Rattle.cb_frames.specs.Fields.{CastFields, IsSome, messages_of, first_number, last_number}
use Rattle.cb_gaps.specs.declared.buffer.Admission.TheVariants.{Kept, Overlap}
use Rattle.cb_gaps.specs.Buffer.{Buffer, AreLacking, Admits, IsAfter, IsNext, Takes, ComeOut, WouldComeOut, IsReorderBuffer}

-- once a cast is kept of which none was received, as many come out as would have come out with it
abbrev pub KeptComeOut : Type 0
KeptComeOut =
    (old new : Buffer) (cast : CastFields) (count : ℕ) → IsSome cast.load → AreLacking old (first_number cast) (last_number cast)
    → WouldComeOut old (first_number cast) (last_number cast) count → IsAfter old cast Kept new → ComeOut new count

-- taking a cast leaves as many less as it has messages
abbrev pub TakingLeavesTheRest : Type 0
TakingLeavesTheRest =
    (old new : Buffer) (cast : CastFields) (count : ℕ) → IsReorderBuffer old → ComeOut old count → IsNext old cast → Takes old cast new
    → (left : ℕ) × (count ≡ left + length (messages_of cast)) × ComeOut new left

-- where the next one is not kept, none is left
abbrev pub NoneIsLeft : Type 0
NoneIsLeft = (buffer : Buffer) (count : ℕ) → IsReorderBuffer buffer → ComeOut buffer count → map.get buffer.kept (buffer.taken + 1) ≡ None → count ≡ 0

-- one message is received or lacking, never in part
abbrev pub OneNeverOverlaps : Type 0
OneNeverOverlaps = (buffer : Buffer) (delivered number : ℕ) → ¬ Admits buffer delivered number number Overlap
