use Rattle.std.proofs.Common.{refl, arith}
use Rattle.cb_member.proofs.Reading.{time_at, time_long}
use Rattle.cb_member.proofs.state.State.unacknowledged_by.Goals as goal

pub get-cast-requires : goal.get-cast-requires
get-cast-requires c =
    let state = c.args.self.now in
    let long = time_long state.seat c.requires.state.facts state.delivery c.requires.state.keeps.delivered in
    omega (arith, c.requires.state.legal.member, long, c.me-me.ensures.me)

pub returns : goal.returns
returns c facts are keeps =
    let state = c.args.self.now in
    let me = c.me-me.ensures.me in
    let time = time_at state.seat facts state.delivery state.seat.me keeps.delivered are.member in
    let learnt = keeps.knows.acknowledged.learnt c.args.k state.seat.me c.requires.member are.member c.requires.other in
    rw (c.saturating_sub.ensures, c.get-cast.ensures.field, c.learnt.ensures, me, time, learnt) refl
