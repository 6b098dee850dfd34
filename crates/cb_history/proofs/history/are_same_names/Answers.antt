use Rattle.std.proofs.lemmas.Slice.Eq.{slice_eq-Decides}
use Rattle.cb_history.proofs.SameNames.{same_name}
use Rattle.cb_history.proofs.history.are_same_names.Goals as goal

pub returns : goal.returns
returns c = slice_eq-Decides same_name c.args.names.now c.args.others.now c.eq.result c.eq.ensures
