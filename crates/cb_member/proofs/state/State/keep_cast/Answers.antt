use Rattle.std.proofs.Common.{◌∙◌, ℕ, List, sym, ap, subst, refl}
use Rattle.cb_times.specs.Order.{field}
use Rattle.cb_stability.specs.Known.{Learns}
use Rattle.cb_member.proofs.Casting.{time_is_long, last_is_long}
use Rattle.cb_member.proofs.OwnCasts.{cast_keeps}
use Rattle.cb_member.proofs.state.State.keep_cast.Goals as goal

pub copy_from-requires : goal.copy_from-requires
copy_from-requires c =
    let state = c.requires.state_is in
    c.requires.size ∙ sym (time_is_long c.args.self.now state.facts state.keeps)

pub copy_from-requires-2 : goal.copy_from-requires-2
copy_from-requires-2 c =
    let state = c.requires.state_is in
    c.requires.size ∙ sym (last_is_long c.args.self.now state.facts state.keeps)

pub returns : goal.returns
returns c = record {
  seat = refl;
  keeps = λ facts load are keeps at is many.
      let acks = c.args.self.now.knowledge.acks in
      let me = c.me-me.result in
      let learns = subst (Learns acks c.learn.new.self me me) (c.get.ensures.field ∙ ap (λ (time : List ℕ). field time me) (sym c.copy_from.ensures.copied)) c.learn.ensures in
      cast_keeps c.relays_keep_what_is_handed_on.ensures.stay c.args.self.now facts load c.copy_from.new.self c.copy_from-2.new.self c.args.sent c.args.count c.learn.new.self c.put.new.self are keeps
      (c.copy_from.ensures.copied ∙ at) (c.copy_from-2.ensures.copied ∙ at) is many
      (subst (λ (k : ℕ). Learns acks c.learn.new.self k k (field c.copy_from.new.self k)) c.me-me.ensures.me learns) c.put.ensures;
}
