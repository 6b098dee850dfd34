use Rattle.std.proofs.Common.{◌<◌, arith, ◌∙◌, sym}
use Rattle.std.proofs.lemmas.Bool.{eqb-true}
use Rattle.std.proofs.lemmas.Bool.Decides.{nat_tests}
use Rattle.cb_times.specs.Order.{field}
use Rattle.cb_delay.proofs.Above.{none_is_above, no_other_is_above}
use Rattle.cb_delay.proofs.place.lacks_none_of_eight.Goals as goal

pub returns-then-above-ne1 : goal.returns-then-above-ne1
returns-then-above-ne1 c none k from upto other =
    none_is_above c.args.stamps.now c.args.counts.now c.args.first 8 k
    (sym c.count_above-above.ensures ∙ eqb-true c.count_above-above.result 0 none) from upto

pub returns : goal.returns
returns c is_own k from upto other =
    let own : field c.args.counts.now c.args.sender < field c.args.stamps.now c.args.sender = grind (arith, nat_tests) in
    no_other_is_above c.args.stamps.now c.args.counts.now c.args.first 8 c.args.sender k (sym c.count_above-above.ensures ∙ c.if-above-ne1.false) c.if-own-first.false c.if-first-own.false own from upto other
