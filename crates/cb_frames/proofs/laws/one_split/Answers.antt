use Rattle.cb_frames.proofs.Splitting.{one_split, cuts_change_nothing}
use Rattle.cb_frames.proofs.laws.one_split.Goals as goal

pub returns-clause-one : goal.returns-clause-one
returns-clause-one c = one_split

pub returns-clause-cuts : goal.returns-clause-cuts
returns-clause-cuts c = cuts_change_nothing
