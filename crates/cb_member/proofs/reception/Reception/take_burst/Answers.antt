use Rattle.std.proofs.Common.{◌≡◌, ℕ, set, refl, sym, ap, ◌∙◌}
use Rattle.std.proofs.lemmas.Option.{slice_get_within}
use Rattle.cb_frames.specs.Fields.{burst_fields, last_number}
use Rattle.cb_gaps.specs.Buffer.{Buffer}
use Rattle.cb_member.proofs.BurstTimes.{burst_received}
use Rattle.cb_member.proofs.Receiving.{one_buffer, vec_at}
use Rattle.cb_member.proofs.reception.Reception.take_burst.Goals as goal

pub returns : goal.returns
returns c seat facts are all =
    let burst = burst_fields c.args.burst.now in
    let buffers = c.args.self.now.buffers.items in
    let in_order = c.requires.in_order in
    let lt = slice_get_within buffers burst.sender in_order.buffer in_order.at in
    let is : c.index_mut.result.now ≡ in_order.buffer =
    one_buffer c.index_mut.result.now in_order.buffer (sym (vec_at buffers burst.sender c.index_mut.result.now lt c.index_mut.ensures.value) ∙ in_order.at) in
    burst_received burst c.args.self.now in_order seat facts are all _ c.args.time.now
    (ap (set buffers burst.sender) (c.take_in_order.ensures ∙ ap (λ (n : ℕ). record c.index_mut.result.now { taken = n }) c.requires.last ∙ ap (λ (b : Buffer). record b { taken = last_number burst }) is)) refl
    c.take_burst.ensures
