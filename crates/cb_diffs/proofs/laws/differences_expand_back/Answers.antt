use Rattle.cb_diffs.proofs.Returning.{differences_expand_back, differences_add_up}
use Rattle.cb_diffs.proofs.laws.differences_expand_back.Goals as goal

pub returns-clause-expands : goal.returns-clause-expands
returns-clause-expands c = differences_expand_back

pub returns-clause-adds_up : goal.returns-clause-adds_up
returns-clause-adds_up c = differences_add_up
