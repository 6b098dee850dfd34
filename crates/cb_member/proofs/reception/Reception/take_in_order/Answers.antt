use Rattle.std.proofs.Common.{◌≡◌, ℕ, set, refl, sym, ap, ◌∙◌}
use Rattle.std.proofs.lemmas.Option.{slice_get_within}
use Rattle.cb_times.specs.declared.name.Name.{Name}
use Rattle.cb_delay.specs.declared.message.Message.{Message}
use Rattle.cb_frames.specs.Fields.{cast_fields, last_number}
use Rattle.cb_frames.proofs.Carried.{cast_ends}
use Rattle.cb_gaps.specs.Buffer.{Buffer}
use Rattle.cb_member.specs.Passing.{message_at}
use Rattle.cb_member.proofs.Receiving.{one_buffer, vec_at}
use Rattle.cb_member.proofs.Passing.{in_order_is_next, takes_in_order}
use Rattle.cb_member.proofs.reception.Reception.take_in_order.Goals as goal

pub take-requires-clause-next : goal.take-requires-clause-next
take-requires-clause-next c = in_order_is_next (cast_fields c.args.cast) c.args.self.now c.requires.can

pub returns-clause-takes : goal.returns-clause-takes
returns-clause-takes c =
    let sender = c.args.cast.sender in
    let buffers = c.args.self.now.buffers.items in
    let in_order = c.requires.can.in_order in
    let lt = slice_get_within buffers sender in_order.buffer in_order.at in
    let is : c.index_mut.result.now ≡ in_order.buffer =
    one_buffer c.index_mut.result.now in_order.buffer (sym (vec_at buffers sender c.index_mut.result.now lt c.index_mut.ensures.value) ∙ in_order.at) in
    let message : (let m : Message = record { name = c.name_of.result; time = c.args.time; payload = c.args.cast.payload } in m) ≡ message_at (cast_fields c.args.cast) c.args.time =
    ap (λ (n : Name). let m : Message = record { name = n; time = c.args.time; payload = c.args.cast.payload } in m) c.name_of.ensures in
    takes_in_order (cast_fields c.args.cast) c.args.self.now c.requires.can _ _
    (ap (set buffers sender) (c.take_in_order.ensures ∙ ap (λ (n : ℕ). record c.index_mut.result.now { taken = n }) (cast_ends c.args.cast) ∙ ap (λ (b : Buffer). record b { taken = last_number (cast_fields c.args.cast) }) is)) refl
    (record { time = c.args.time; expands = c.take.ensures; message_is = message })

pub returns-clause-message : goal.returns-clause-message
returns-clause-message c = ap (λ (n : Name). let m : Message = record { name = n; time = c.args.time; payload = c.args.cast.payload } in m) c.name_of.ensures
