use Rattle.std.proofs.Common.{ℕ, sym, subst}
use Rattle.cb_frames.specs.Fields.{burst_fields}
use Rattle.cb_frames.proofs.Carried.{first_is_number}
use Rattle.cb_gaps.specs.Buffer.{IsInOrder}
use Rattle.cb_member.proofs.Receiving.{vec_at}
use Rattle.cb_member.proofs.reception.Reception.is_next_burst.Goals as goal

pub returns : goal.returns
returns c in_order = record {
  buffer = c.index.result.now;
  at = vec_at c.args.self.now.buffers.items c.args.burst.now.sender c.index.result.now c.requires c.index.ensures;
  in_order = subst (λ (n : ℕ). IsInOrder c.index.result.now n) (sym (first_is_number (burst_fields c.args.burst.now))) (c.is_in_order.ensures.0 in_order);
}
