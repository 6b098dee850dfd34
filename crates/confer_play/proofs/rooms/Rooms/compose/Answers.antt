use Rattle.std.proofs.Common.{◌≡◌, ℕ, ◌<◌, List, Some, length, get_or, slice_get, refl, subst}
use Rattle.std.proofs.lemmas.Option.{slice_get_read}
use Rattle.std.proofs.lemmas.Result.{on_ok_weaker}
use Rattle.cb_rooms.specs.Line.{fields_of}
use Rattle.confer_play.proofs.Shown.{composes, composes_nothing}
use Rattle.confer_play.proofs.rooms.Rooms.compose.Goals as goal

at_place : {X : Type 0} {all lent : List X} {i : ℕ} {x : X} → lent ≡ all → i < length lent → x ≡ get_or lent i x → slice_get all i ≡ Some x
at_place {X} {all} {lent} {i} {x} is within read = subst (λ (xs : List X). slice_get xs i ≡ Some x) is (slice_get_read lent (length lent) i x refl within read)

pub returns-in-Ok-clause-world : goal.returns-in-Ok-clause-world
returns-in-Ok-clause-world c =
    let attendances = c.args.self.now.attendances.items in
    let a = c.in-Some.attendance.now in
    let at : slice_get attendances c.args.member ≡ Some a = at_place c.deref.ensures.value c.in-Some.ensures.lookup.3.0 c.in-Some.ensures.lookup.1 in
    on_ok_weaker c.cast.result
    (composes c.args.self.now.world c.cast.new.self.world attendances c.args.member (fields_of c.args.line.now) a c.in-Ok.payload.items at c.in-Ok.ensures.payload c.in-Ok.ensures.no_fault)
    c.cast.ensures.world

pub returns-in-Err-clause-world : goal.returns-in-Err-clause-world
returns-in-Err-clause-world c =
    let attendances = c.args.self.now.attendances.items in
    let a = c.in-Some.attendance.now in
    let at : slice_get attendances c.args.member ≡ Some a = at_place c.deref.ensures.value c.in-Some.ensures.lookup.3.0 c.in-Some.ensures.lookup.1 in
    on_ok_weaker c.not_composed.result (composes_nothing c.args.self.now.world attendances c.args.member (fields_of c.args.line.now) a c.in-Err.fault at c.in-Err.ensures.fault) c.not_composed.ensures
