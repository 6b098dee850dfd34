use Rattle.std.proofs.Common.{◌≡◌, ◌≤◌, drop, map}
use Rattle.cb_links.specs.Counts.{greatest}
use Rattle.cb_links.specs.Ends.{outcome_at}
use Rattle.cb_links.specs.Offers.{at_all, both}
use Rattle.cb_links.proofs.channel.offered_to_all.Given as goal

-- with the outcomes to come it is that at all
abbrev pub invariant-loop-end : goal.invariant-loop-end
invariant-loop-end l =
    (l.offered.failures ≤ greatest)
    × (both l.offered (at_all (map outcome_at (drop l.end-index l.to))) ≡ at_all (map outcome_at l.to))
