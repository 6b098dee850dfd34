use Rattle.cb_member.specs.Delivery.{IsSettled}
use Rattle.cb_member.proofs.ToldAhead.{AreTelling, numbers_left}
use Rattle.cb_member.proofs.delivery.Delivery.foretell.Given as goal

-- the queue was only asked, and what is told so far goes
abbrev pub invariant-deliveries : goal.invariant-deliveries
invariant-deliveries l = record {
  settled : IsSettled l.fn.self l.self;
  telling : AreTelling l.coming.items l.fn.self l.time l.copies.items;
}

-- no member delivers more than there are numbers
abbrev pub decreases-deliveries : goal.decreases-deliveries
decreases-deliveries l = numbers_left 4294967296 l.time
