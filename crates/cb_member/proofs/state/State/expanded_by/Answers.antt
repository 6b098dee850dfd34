use Rattle.std.proofs.Common.{◌≡◌, ◌∙◌, ℕ, List, ap, sym, subst, arith, Some}
use Rattle.std.specs.Prelude.{slice_get}
use Rattle.std.proofs.lemmas.Option.{slice_get_within}
use Rattle.std.proofs.lemmas.Result.{IfOk-weaker}
use Rattle.cb_times.specs.Order.{field}
use Rattle.cb_frames.specs.Fields.{CastFields, unit_fields}
use Rattle.cb_gaps.specs.Buffer.{Buffer}
use Rattle.cb_diffs.specs.Expansion.{time_of}
use Rattle.cb_history.specs.BufferLaws.{AreKept}
use Rattle.cb_history.specs.Singles.{singles_of}
use Rattle.cb_member.specs.Singles.{CanKeepInTurn}
use Rattle.cb_member.proofs.Courses.{expander_long}
use Rattle.cb_member.proofs.Foreseeing.{are_expanded_by_it, takes_out_then}
use Rattle.cb_member.proofs.Receiving.{can_keep_in_turn, vec_at}
use Rattle.cb_member.proofs.TakingIn.{has_numbers, of_member, sender_is_counted}
use Rattle.cb_member.proofs.state.State.expanded_by.Goals as goal

pub index-requires : goal.index-requires
index-requires c =
    let can = c.requires.can_keep in
    let of = c.sender-sender.ensures in
    omega (arith, of, slice_get_within c.args.self.now.reception.buffers.items (unit_fields c.args.unit.now).sender can.buffer can.at, c.args.self.now.reception.buffers.ok.0)

pub get-requires : goal.get-requires
get-requires c = rw c.sender-sender.ensures (sender_is_counted (unit_fields c.args.unit.now) c.args.self.now c.requires)

pub keep_singles-requires : goal.keep_singles-requires
keep_singles-requires c =
    let cast = unit_fields c.args.unit.now in
    let can = c.requires.can_keep in
    let of = c.sender-sender.ensures in
    let buffers = c.args.self.now.reception.buffers.items in
    let there = slice_get_within buffers cast.sender can.buffer can.at in
    let at : slice_get buffers cast.sender ≡ Some c.index.result.now =
    ap (slice_get buffers) (sym of) ∙ vec_at buffers c.sender-sender.result c.index.result.now (omega (arith, of, there)) c.index.ensures in
    let delivered : c.get.result ≡ field c.args.self.now.delivery.time cast.sender = c.get.ensures.field ∙ ap (field c.args.self.now.delivery.time) of in
    subst (λ (n : ℕ). CanKeepInTurn n (singles_of (unit_fields c.in_ok-copy.copy)) c.in_ok-buffer.buffer) (sym delivered)
    (subst (λ (singles : List CastFields). CanKeepInTurn (field c.args.self.now.delivery.time cast.sender) singles c.in_ok-buffer.buffer) (sym (ap singles_of c.in_ok-copy.ensures))
    (subst (CanKeepInTurn (field c.args.self.now.delivery.time cast.sender) (singles_of cast)) (sym c.in_ok-buffer.ensures)
    (can_keep_in_turn (field c.args.self.now.delivery.time cast.sender) cast c.args.self.now.reception c.index.result.now (has_numbers cast c.args.self.now c.requires) can at)))

pub last_time-requires : goal.last_time-requires
last_time-requires c =
    let of = c.sender-sender.ensures in
    let member = of_member c.args.self.now.seat c.requires.facts (unit_fields c.args.unit.now) c.requires.legal in
    omega (arith, of, member, expander_long (unit_fields c.args.unit.now) c.args.self.now c.requires)

pub come_out-requires : goal.come_out-requires
come_out-requires c =
    let cast = unit_fields c.args.unit.now in
    let can = c.requires.can_keep in
    let of = c.sender-sender.ensures in
    let buffers = c.args.self.now.reception.buffers.items in
    let there = slice_get_within buffers cast.sender can.buffer can.at in
    let at : slice_get buffers cast.sender ≡ Some c.index.result.now =
    ap (slice_get buffers) (sym of) ∙ vec_at buffers c.sender-sender.result c.index.result.now (omega (arith, of, there)) c.index.ensures in
    let kept = subst (λ (b : Buffer). AreKept b (singles_of cast) c.keep_singles.new.buffer) c.in_ok-buffer.ensures
    (subst (λ (singles : List CastFields). AreKept c.in_ok-buffer.buffer singles c.keep_singles.new.buffer) (ap singles_of c.in_ok-copy.ensures) c.keep_singles.ensures) in
    takes_out_then cast c.args.self.now c.requires c.index.result.now c.keep_singles.new.buffer at kept c.in_ok-time.time
    (c.in_ok-time.ensures.equal ∙ c.last_time.ensures ∙ ap (time_of c.args.self.now.reception.expander) of)

pub returns : goal.returns
returns c =
    let cast = unit_fields c.args.unit.now in
    let can = c.requires.can_keep in
    let of = c.sender-sender.ensures in
    let buffers = c.args.self.now.reception.buffers.items in
    let there = slice_get_within buffers cast.sender can.buffer can.at in
    let at : slice_get buffers cast.sender ≡ Some c.index.result.now =
    ap (slice_get buffers) (sym of) ∙ vec_at buffers c.sender-sender.result c.index.result.now (omega (arith, of, there)) c.index.ensures in
    let kept = subst (λ (b : Buffer). AreKept b (singles_of cast) c.keep_singles.new.buffer) c.in_ok-buffer.ensures
    (subst (λ (singles : List CastFields). AreKept c.in_ok-buffer.buffer singles c.keep_singles.new.buffer) (ap singles_of c.in_ok-copy.ensures) c.keep_singles.ensures) in
    IfOk-weaker c.come_out.result _ _ (λ messages come.
    are_expanded_by_it cast c.args.self.now c.requires c.index.result.now c.keep_singles.new.buffer at kept c.in_ok-time.time
    (c.in_ok-time.ensures.equal ∙ c.last_time.ensures ∙ ap (time_of c.args.self.now.reception.expander) of) messages.items come) c.come_out.ensures
