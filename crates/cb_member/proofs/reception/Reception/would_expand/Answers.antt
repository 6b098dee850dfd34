use Rattle.std.proofs.Common.{◌∙◌, ℕ, arith, ap, subst, sym}
use Rattle.std.specs.Prelude.{slice_get}
use Rattle.cb_frames.specs.Fields.{last_number, unit_fields}
use Rattle.cb_frames.proofs.Carried.{fields_numbered}
use Rattle.cb_member.specs.Taking.{WouldExpand}
use Rattle.cb_member.proofs.Receiving.{vec_at}
use Rattle.cb_member.proofs.TakingIn.{would_expand}
use Rattle.cb_member.proofs.reception.Reception.would_expand.Goals as goal

pub last-requires : goal.last-requires
last-requires c = fields_numbered c.args.unit.now c.requires.numbered

pub returns : goal.returns
returns c =
    let unit = unit_fields c.args.unit.now in
    let of = c.sender.ensures in
    let member = c.requires.member in
    let buffers = c.args.self.now.buffers.items in
    let at = ap (slice_get buffers) (sym of) ∙ vec_at buffers c.sender.result c.index.result.now (omega (arith, of, member)) c.index.ensures in
    subst (λ (first : ℕ). WouldExpand unit.sender first (last_number unit) c.args.self.now c.ready_with.result) c.first.ensures
    (subst (λ (last : ℕ). WouldExpand unit.sender c.first.result last c.args.self.now c.ready_with.result) c.last.ensures
    (would_expand unit.sender c.first.result c.last.result c.args.self.now c.index.result.now _ at c.ready_with.ensures.row))
