use Rattle.std.proofs.Common.{◌≡◌, ◌∙◌, ℕ, true, Some, sym, ap, subst, arith}
use Rattle.std.specs.Prelude.{slice_get}
use Rattle.std.proofs.lemmas.Option.{slice_get-get_or}
use Rattle.cb_times.specs.Order.{field}
use Rattle.cb_frames.specs.Fields.{CastFrame, first_number, last_number, unit_fields}
use Rattle.cb_frames.proofs.Carried.{fields_numbered}
use Rattle.cb_gaps.specs.Buffer.{Buffer, Admits}
use Rattle.cb_history.specs.Group.{Parameters}
use Rattle.cb_history.specs.Answers.{are_members}
use Rattle.cb_member.specs.Arriving.{own_verdict, JudgesCast}
use Rattle.cb_member.proofs.Reading.{time_long}
use Rattle.cb_member.proofs.JudgingCasts.{is_member, judges_own, judges_other}
use Rattle.cb_member.proofs.state.State.judge_cast.Goals as goal

pub last-last-requires : goal.last-last-requires
last-last-requires c = fields_numbered c.args.unit.now (c.requires.fits.some, c.requires.numbers)

pub get-delivered-requires : goal.get-delivered-requires
get-delivered-requires c =
    let unit = unit_fields c.args.unit.now in
    let members : are_members c.args.self.now.seat.group.size (CastFrame unit) ≡ true =
    ap (λ (n : ℕ). are_members n (CastFrame unit)) (sym (c.size.ensures.size ∙ ap (λ (g : Parameters). g.size) c.group-3.ensures.group)) ∙ sym c.are_members.ensures ∙ c.if-not-are_members.false in
    let group = sym c.group.ensures ∙ c.if-group-number.false ∙ c.number.ensures ∙ ap (λ (g : Parameters). g.number) c.group-2.ensures.group in
    let long = time_long c.args.self.now.seat c.requires.state.facts c.args.self.now.delivery c.requires.state.keeps.delivered in
    let of = c.sender-sender.ensures in
    omega (arith, long, of, is_member c.args.self.now unit c.requires.fits c.requires.numbered group members)

pub returns-then-sender-me : goal.returns-then-sender-me
returns-then-sender-me c =
    let unit = unit_fields c.args.unit.now in
    let time = c.args.self.now.delivery.time in
    let members : are_members c.args.self.now.seat.group.size (CastFrame unit) ≡ true =
    ap (λ (n : ℕ). are_members n (CastFrame unit)) (sym (c.size.ensures.size ∙ ap (λ (g : Parameters). g.size) c.group-3.ensures.group)) ∙ sym c.are_members.ensures ∙ c.if-not-are_members.false in
    let group = sym c.group.ensures ∙ c.if-group-number.false ∙ c.number.ensures ∙ ap (λ (g : Parameters). g.number) c.group-2.ensures.group in
    let counted = c.get-delivered.ensures.field ∙ ap (field time) c.sender-sender.ensures in
    let verdict = c.judge_own.ensures ∙ ap (λ (n : ℕ). own_verdict n c.last-last.result) counted ∙ ap (own_verdict (field time unit.sender)) c.last-last.ensures in
    subst (JudgesCast c.args.self.now unit) (sym verdict)
    (judges_own c.args.self.now unit c.requires.fits c.requires.numbered group members (sym c.sender-sender.ensures ∙ c.if-sender-me.true ∙ c.me.ensures.me))

pub returns : goal.returns
returns c =
    let unit = unit_fields c.args.unit.now in
    let buffers = c.args.self.now.reception.buffers.items in
    let members : are_members c.args.self.now.seat.group.size (CastFrame unit) ≡ true =
    ap (λ (n : ℕ). are_members n (CastFrame unit)) (sym (c.size.ensures.size ∙ ap (λ (g : Parameters). g.size) c.group-3.ensures.group)) ∙ sym c.are_members.ensures ∙ c.if-not-are_members.false in
    let group = sym c.group.ensures ∙ c.if-group-number.false ∙ c.number.ensures ∙ ap (λ (g : Parameters). g.number) c.group-2.ensures.group in
    let of = c.sender-sender.ensures in
    let member = is_member c.args.self.now unit c.requires.fits c.requires.numbered group members in
    let at : slice_get buffers unit.sender ≡ Some c.index.result.now =
    ap (slice_get buffers) (sym of) ∙ slice_get-get_or buffers c.sender-sender.result c.index.result.now (omega (arith, of, member, c.requires.state.keeps.received.senders)) ∙ ap (λ (b : Buffer). Some b) (sym c.index.ensures) in
    let counted = c.get-delivered.ensures.field ∙ ap (field c.args.self.now.delivery.time) of in
    let admits = subst (λ (n : ℕ). Admits c.index.result.now n (first_number unit) (last_number unit) c.judge.result) counted
    (subst (λ (n : ℕ). Admits c.index.result.now c.get-delivered.result n (last_number unit) c.judge.result) c.first.ensures
    (subst (λ (n : ℕ). Admits c.index.result.now c.get-delivered.result c.first.result n c.judge.result) c.last-last.ensures c.judge.ensures)) in
    judges_other c.args.self.now unit c.requires.fits c.requires.numbered group members (λ own. c.if-sender-me.false (of ∙ own ∙ sym c.me.ensures.me)) c.index.result.now at
    c.requires.numbers c.requires.state c.judge.result _ admits c.judge_other.ensures
