use Rattle.std.proofs.Common.{◌≡◌, ◌+◌, arith}
use Rattle.std.proofs.lemmas.Bool.Decides.{nat_tests}
use Rattle.cb_times.specs.Order.{field}
use Rattle.cb_delay.specs.Rule.{is_above}
use Rattle.cb_delay.proofs.Above.{one_if, counted_so_far}
use Rattle.cb_delay.proofs.message.count_above.Goals as goal

pub loop-j-preserved : goal.loop-j-preserved
loop-j-preserved c =
    let above = is_above (field c.args.stamps.now) (field c.args.counts.now) in
    let here : c.from-above.result ≡ one_if (above (c.args.first + c.loop-j.j)) = grind (arith, nat_tests) in
    let more = counted_so_far above c.args.first c.loop-j.j c.loop-j.above c.from-above.result here c.loop-j.invariant.counted c.loop-j.invariant.few in
    record { counted = more.0; few = more.1 }
