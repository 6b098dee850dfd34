use Rattle.std.proofs.Common.{◌<◌, ◌≤◌, arith}
use Rattle.cb_reference.proofs.Ticking.{request_keeps}
use Rattle.cb_reference.proofs.tick.request_for.Goals as goal

pub frame_text-requires-clause-rules : goal.frame_text-requires-clause-rules
frame_text-requires-clause-rules c =
    let few : c.args.seat.group.size ≤ 64 = c.me.ensures.is.group.size.at_most_sixty_four in
    let me : c.me.result < c.args.seat.group.size = omega (arith, c.me.ensures.me, c.me.ensures.is.member) in
    request_keeps c.number.result c.me.result c.args.i c.args.ranges.items c.truncate.new.self.items
    (omega (arith, me, few)) (omega (arith, c.requires.asked, few))
    c.requires.some c.requires.rules c.truncate.ensures.items
