-- What became of the last frames of an outlet over channels.
use Rattle.std.specs.Prelude.{ℕ, List, Option, Some, None, Ok, Err, map, slice_get}
use Rattle.cb_links.specs.declared.channel.End.{End}
use Rattle.cb_links.specs.declared.link.LinkFault.TheVariants as faults
use Rattle.cb_links.specs.declared.link.Offered.{Offered}
use Rattle.cb_links.specs.Offers.{at_all, outcome_of}

-- their outcome at one of the others; the sender itself was offered nothing
abbrev pub outcome_at : Option End → Offered
outcome_at None = outcome_of (Ok tt)
outcome_at (Some end) = end.offered

-- their outcome where they are to one member; none can be sent to the sender itself, nor to a number that is no member's
abbrev pub outcome_to : Option (Option End) → Offered
outcome_to None = outcome_of (Err faults.Device)
outcome_to (Some None) = outcome_of (Err faults.Device)
outcome_to (Some (Some end)) = end.offered

-- their outcome, where they are to that member or to all others
abbrev pub outcome_for : List (Option End) → Option ℕ → Offered
outcome_for ends None = at_all (map outcome_at ends)
outcome_for ends (Some member) = outcome_to (slice_get ends member)
