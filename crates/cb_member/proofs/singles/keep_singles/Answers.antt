use Rattle.std.proofs.Common.{[], List, refl, subst, sym}
use Rattle.cb_frames.specs.declared.frame.Unit.{Unit as Carrying}
use Rattle.cb_frames.specs.Fields.{CastFields, unit_fields}
use Rattle.cb_history.specs.BufferLaws.{AreKept}
use Rattle.cb_history.specs.Singles.{IsSingle}
use Rattle.cb_history.proofs.Singles.{singles_of_one_message}
use Rattle.cb_member.specs.Singles.{CanKeepInTurn}
use Rattle.cb_member.proofs.Receiving.{first_is_kept}
use Rattle.cb_member.proofs.singles.keep_singles.Goals as goal

pub returns-in-One : goal.returns-in-One
returns-in-One c =
    let cast = unit_fields c.args.unit in
    let single : IsSingle cast = subst (λ (unit : Carrying). IsSingle (unit_fields unit)) (sym c.in-One.is) tt in
    let alone = singles_of_one_message cast single in
    let new = c.keep-kept.new.self in
    let can = subst (λ (singles : List CastFields). CanKeepInTurn c.args.delivered singles c.args.buffer.now) alone c.requires in
    let kept = first_is_kept c.args.delivered cast [] c.args.buffer.now new c.keep-kept.result can c.keep-kept.ensures.answer c.keep-kept.ensures.after in
    subst (λ (singles : List CastFields). AreKept c.args.buffer.now singles new) (sym alone) (new, kept, refl)
