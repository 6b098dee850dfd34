use Rattle.std.proofs.Common.{ℕ, sym, subst}
use Rattle.cb_frames.specs.Fields.{cast_fields}
use Rattle.cb_frames.proofs.Carried.{first_is_number}
use Rattle.cb_gaps.specs.Buffer.{IsInOrder}
use Rattle.cb_member.proofs.Receiving.{vec_at}
use Rattle.cb_member.proofs.reception.Reception.is_in_order.Goals as goal

pub returns : goal.returns
returns c in_order = record {
  buffer = c.index.result.now;
  at = vec_at c.args.self.now.buffers.items c.args.cast.now.sender c.index.result.now c.requires c.index.ensures;
  in_order = subst (λ (n : ℕ). IsInOrder c.index.result.now n) (sym (first_is_number (cast_fields c.args.cast.now))) (c.is_in_order.ensures.0 in_order);
}
