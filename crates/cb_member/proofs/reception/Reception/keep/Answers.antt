use Rattle.std.proofs.Common.{◌≡◌, ◌+◌, ◌≤◌, List, ℕ, length, map, set, refl, sym, ap, subst, ◌∙◌, arith}
use Rattle.std.specs.Prelude.{slice_get}
use Rattle.std.specs.Vec.{vec_len, vec_capacity}
use Rattle.std.specs.declared.vec.Vec.{Vec}
use Rattle.std.specs.declared.alloc.Global.{Global}
use Rattle.std.proofs.lemmas.List.{map-set}
use Rattle.std.proofs.lemmas.Option.{slice_get_within}
use Rattle.cb_frames.specs.Fields.{unit_fields}
use Rattle.cb_member.specs.Singles.{times_in}
use Rattle.cb_member.proofs.Receiving.{can_keep_in_turn, kept_cast, one_value, vec_at, stack_at}
use Rattle.cb_member.proofs.reception.Reception.keep.Goals as goal

pub index_mut-requires : goal.index_mut-requires
index_mut-requires c =
    let place = c.requires.place in
    let of = c.sender-sender.ensures in
    omega (arith, of, slice_get_within c.args.self.now.spares.items (unit_fields c.args.unit).sender place.times place.at, c.args.self.now.spares.ok.0)

pub put_on-requires : goal.put_on-requires
put_on-requires c =
    let place = c.requires.place in
    let spares = c.args.self.now.spares.items in
    let of = c.sender-sender.ensures in
    let there = slice_get_within spares (unit_fields c.args.unit).sender place.times place.at in
    let is : place.times ≡ c.index_mut.result.now =
    one_value place.times c.index_mut.result.now
    (sym place.at ∙ ap (slice_get spares) (sym of) ∙ vec_at spares c.sender-sender.result c.index_mut.result.now (omega (arith, of, there)) c.index_mut.ensures.value) in
    subst (λ (v : Vec (List ℕ) Global). vec_len v + length (times_in c.args.spares) ≤ vec_capacity v) is place.room

pub index_mut-requires-2 : goal.index_mut-requires-2
index_mut-requires-2 c =
    let can = c.requires.can_keep in
    let of = c.sender-sender.ensures in
    omega (arith, of, slice_get_within c.args.self.now.buffers.items (unit_fields c.args.unit).sender can.buffer can.at, c.args.self.now.buffers.ok.0)

pub keep_singles-requires : goal.keep_singles-requires
keep_singles-requires c =
    let can = c.requires.can_keep in
    let buffers = c.args.self.now.buffers.items in
    let of = c.sender-sender.ensures in
    let there = slice_get_within buffers (unit_fields c.args.unit).sender can.buffer can.at in
    let at = ap (slice_get buffers) (sym of) ∙ vec_at buffers c.sender-sender.result c.index_mut-2.result.now (omega (arith, of, there)) c.index_mut-2.ensures.value in
    can_keep_in_turn c.args.delivered (unit_fields c.args.unit) c.args.self.now c.index_mut-2.result.now c.requires.numbered can at

pub returns : goal.returns
returns c seat facts are all spares_are =
    let can = c.requires.can_keep in
    let place = c.requires.place in
    let of = c.sender-sender.ensures in
    let buffers = c.args.self.now.buffers.items in
    let spares = c.args.self.now.spares.items in
    let there = slice_get_within buffers (unit_fields c.args.unit).sender can.buffer can.at in
    let there_too = slice_get_within spares (unit_fields c.args.unit).sender place.times place.at in
    kept_cast (unit_fields c.args.unit) (times_in c.args.spares) c.index_mut-2.result.now c.keep_singles.new.buffer c.index_mut.result.now.items c.args.self.now _
    (record {
      at = ap (slice_get buffers) (sym of) ∙ vec_at buffers c.sender-sender.result c.index_mut-2.result.now (omega (arith, of, there)) c.index_mut-2.ensures.value;
      kept = c.keep_singles.ensures;
      buffers = ap (λ (i : ℕ). set buffers i c.keep_singles.new.buffer) of;
      expander = refl;
      at_stack = stack_at c.args.self.now (unit_fields c.args.unit).sender c.index_mut.result.now
          (ap (slice_get spares) (sym of) ∙ vec_at spares c.sender-sender.result c.index_mut.result.now (omega (arith, of, there_too)) c.index_mut.ensures.value);
      now_spares = map-set (λ (times : Vec (List ℕ) Global). times.items) spares c.sender-sender.result c.put_on.new.stack
          ∙ ap (λ (i : ℕ). set (map (λ (times : Vec (List ℕ) Global). times.items) spares) i c.put_on.new.stack.items) of
          ∙ ap (set (map (λ (times : Vec (List ℕ) Global). times.items) spares) (unit_fields c.args.unit).sender) c.put_on.ensures;
    })
    c.args.delivered can seat facts are all spares_are
