use Rattle.std.proofs.Common.{◌≡◌, ◌∙◌, ℕ, ap, arith}
use Rattle.cb_times.specs.Order.{field}
use Rattle.cb_diffs.specs.Differences.{differences}
use Rattle.cb_history.specs.Group.{Parameters}
use Rattle.cb_member.proofs.Casting.{time_has_me, has_grown, own_left, next_is_made}
use Rattle.cb_member.proofs.state.State.next_cast.Goals as goal

pub difference-requires-clause-member : goal.difference-requires-clause-member
difference-requires-clause-member c =
    let state = c.requires.state in
    omega (arith, time_has_me c.args.self.now state.facts state.legal state.keeps, c.me-me.ensures.me)

pub difference-requires-clause-grown : goal.difference-requires-clause-grown
difference-requires-clause-grown c = let state = c.requires.state in has_grown c.args.self.now state.facts state.legal state.keeps

pub get-requires : goal.get-requires
get-requires c =
    let state = c.requires.state in
    omega (arith, time_has_me c.args.self.now state.facts state.legal state.keeps, c.me-me.ensures.me)

pub overflow_add-result : goal.overflow_add-result
overflow_add-result c =
    let state = c.requires.state in
    let at : c.get.result ≡ field c.args.self.now.delivery.time c.args.self.now.seat.me = c.get.ensures.field ∙ ap (field c.args.self.now.delivery.time) c.me-me.ensures.me in
    omega (arith, own_left c.args.self.now state.facts state.legal state.keeps c.requires.room, at)

pub returns : goal.returns
returns c facts are keeps load = next_is_made c.args.self.now facts load c.number.result c.me-me.result c.get.result c.in_ok-changes.changes.items are keeps
    (c.number.ensures ∙ ap (λ (g : Parameters). g.number) c.group.ensures.group)
    c.me-me.ensures.me
    (c.get.ensures.field ∙ ap (field c.args.self.now.delivery.time) c.me-me.ensures.me)
    (c.in_ok-changes.ensures ∙ ap (λ (me : ℕ). differences c.args.self.now.sending.last_cast c.args.self.now.delivery.time me) c.me-me.ensures.me)
