use Rattle.cb_delay.proofs.Deques.{lists_of}
use Rattle.cb_delay.proofs.index.Index.set_field.Goals as goal

pub returns-then-get-count-clause-placed : goal.returns-then-get-count-clause-placed
returns-then-get-count-clause-placed c told = c.grow.ensures.placed (lists_of c.args.lists.now) c.holds_some.ensures told
