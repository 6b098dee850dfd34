use Rattle.std.proofs.Common.{sym}
use Rattle.cb_member.proofs.Rising.{all_by_last}
use Rattle.cb_member.proofs.arrival.are_fields.Goals as goal

pub returns-in-Some : goal.returns-in-Some
returns-in-Some c = sym (all_by_last c.args.size 0 c.args.changes.now c.in-Some.change.now c.requires (sym c.in-Some.ensures.value))
