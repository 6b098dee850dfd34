use Rattle.std.proofs.Common.{◌∙◌, refl, ltb, ap}
use Rattle.std.specs.List.{list_any, list_all}
use Rattle.std.proofs.lemmas.Bool.{eq-eqb}
use Rattle.cb_times.specs.Order.{field}
use Rattle.cb_frames.specs.declared.frame.Change.{Change}
use Rattle.cb_member.proofs.Hearing.{ahead_is}
use Rattle.cb_member.proofs.Values.{both_true}
use Rattle.cb_member.proofs.state.State.weigh_own.Goals as goal

pub returns : goal.returns
returns c facts are keeps =
    let state = c.args.self.now in
    let seat = state.seat in
    let status = c.args.status.now in
    let own = c.requires.own in
    let all = (both_true (ltb status.sender seat.group.size) (list_all (λ (v : Change). ltb v.field seat.group.size) status.values.items) c.requires.members).1 in
    record {
      impossible = rw (eq-eqb status.sender seat.me own)
          (c.is_ahead.ensures ∙ ap (list_any (λ (v : Change). ltb (field state.delivery.time v.field) v.amount)) c.deref.ensures.value
          ∙ ahead_is seat facts state.delivery status.values.items keeps.delivered all);
      news = rw (eq-eqb status.sender seat.me own) refl;
    }
