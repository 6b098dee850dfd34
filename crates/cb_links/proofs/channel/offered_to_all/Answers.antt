use Rattle.std.proofs.Common.{◌≡◌, map, ap, ◌∙◌, arith}
use Rattle.cb_links.specs.declared.link.Offered.{Offered}
use Rattle.cb_links.specs.Ends.{outcome_at}
use Rattle.cb_links.specs.Offers.{at_all, both}
use Rattle.cb_links.proofs.Outcomes.{with_none}
use Rattle.cb_links.proofs.channel.offered_to_all.Goals as goal

pub loop-end-init : goal.loop-end-init
loop-end-init c =
    let none : c.taken-offered.result.failures ≡ 0 = ap (λ (o : Offered). o.failures) c.taken-offered.ensures in (
      omega (arith, none),
      ap (λ (o : Offered). both o (at_all (map outcome_at c.args.to.now))) c.taken-offered.ensures ∙ with_none (map outcome_at c.args.to.now),
    )
