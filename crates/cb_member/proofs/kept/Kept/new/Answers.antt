use Rattle.cb_member.proofs.Keeping.{new_is_kept}
use Rattle.cb_member.proofs.kept.Kept.new.Goals as goal

pub invariant_of-result : goal.invariant_of-result
invariant_of-result c = new_is_kept c.in-Ok.core c.args.history_max _ _ c.in-Ok.ensures.empty c.new-in-Ok.ensures.items c.new-in-Ok-2.ensures.items
