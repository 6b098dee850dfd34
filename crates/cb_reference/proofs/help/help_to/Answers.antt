use Rattle.std.proofs.Common.{◌<◌, ◌≤◌, arith}
use Rattle.cb_reference.proofs.Helping.{help_keeps}
use Rattle.cb_reference.proofs.help.help_to.Goals as goal

pub frame_text-requires-clause-rules : goal.frame_text-requires-clause-rules
frame_text-requires-clause-rules c =
    let size = c.args.past.now.seat.group.size in
    let few : size ≤ 64 = c.me.ensures.is.group.size.at_most_sixty_four in
    let me : c.me.result < size = omega (arith, c.me.ensures.me, c.me.ensures.is.member) in
    help_keeps c.number.result c.me.result c.args.helper c.args.i c.args.ranges.items c.truncate.new.self.items
    (omega (arith, me, few)) (omega (arith, c.requires.helper, few)) (omega (arith, c.requires.sender, few))
    c.requires.some c.requires.rules c.truncate.ensures.items
