use Rattle.std.proofs.Common.{ℕ, List, length, refl, ap, subst, arith}
use Rattle.std.specs.Vec.{with_items}
use Rattle.std.proofs.lemmas.List.{with_items_is}
use Rattle.cb_frames.specs.Fields.{status_fields}
use Rattle.cb_stability.specs.Relays.{Relayed}
use Rattle.cb_member.specs.Sending.{TrimsToStable}
use Rattle.cb_member.proofs.Hearing.{heard_keeps}
use Rattle.cb_member.proofs.state.State.hear.Goals as goal

pub returns : goal.returns
returns c = record {
  seat = refl;
  keeps = λ facts are keeps.
      let state = c.args.self.now in
      let relays = state.relays in
      let later = c.trim_relays.new.relays in
      let many = c.trim_relays.ensures.as_many in
      let many_before = ap (λ (rs : List Relayed). length rs) c.deref_mut.ensures.value in
      heard_keeps c.relays_keep_what_is_handed_on.ensures.stay state facts (status_fields c.args.status.now) c.hear_status.new.self c.trim.new.self (with_items relays later) later are keeps c.hear_status.ensures
      (subst (λ (k : ℕ). TrimsToStable k c.hear_status.new.self.acks state.sending.window c.trim.new.self.window) c.me.ensures.me c.trim.ensures.window) c.trim.ensures.rest (with_items_is relays later (omega (arith, many, many_before, relays.ok.0))) (rw c.deref_mut.ensures.value at c.trim_relays.ensures.trims);
}
