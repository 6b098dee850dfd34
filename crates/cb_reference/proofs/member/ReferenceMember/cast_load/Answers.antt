use Rattle.std.proofs.Common.{map, Some, Result, ap, sym, ◌∙◌, refl}
use Rattle.cb_frames.specs.Fields.{CastFields}
use Rattle.cb_history.specs.CastFault.{CastFault}
use Rattle.cb_history.specs.Facts.{EntryFields, entry_fields}
use Rattle.cb_history.specs.Legal.{ToCast, cast_entry}
use Rattle.cb_history.specs.State.{MemberState}
use Rattle.cb_reference.specs.Casting.{load_of}
use Rattle.cb_reference.proofs.Calls.{called}
use Rattle.cb_reference.proofs.member.ReferenceMember.cast_load.Goals as goal

pub invariant_of-self-2 : goal.invariant_of-self-2
invariant_of-self-2 c =
    let s = c.self.inside in
    let m : MemberState = record { seat = s.seat; limit = s.limit; entries = map entry_fields s.entries.items } in
    called m c.args.self.now s.entries.items c.enter_cast.new.entries.items (Some c.in_ok-casting.casting.entry) (ToCast (load_of c.args.load)) c.self.view_is refl c.self.invariant c.in_ok-casting.ensures.bytes
    (ap (λ (e : EntryFields). Some e) c.in_ok-casting.ensures.casting.entry ∙ sym (ap (λ (r : Result CastFields CastFault). cast_entry r) c.in_ok-casting.ensures.answer)) (λ some. c.in_ok-casting.ensures.room)
    c.in_ok-noted.ensures.added (λ within some. c.in_ok-noted.ensures.room s.limit (some refl))
